use Rattle.order.proofs.Orders.{lawful_by}
use Rattle.order.specs.Orders.{Lawful}
use Rattle.keys.specs.ByteOrder.{compare_bytes}
use Rattle.keys.specs.StorePrefixes.{prefix_text}
use Rattle.keys.specs.declared.store_prefix.StorePrefix.{StorePrefix}
use Rattle.keys.specs.ByteOrderLemmas.{bytes_lawful}
use Rattle.keys.specs.StorePrefixesLemmas.{prefix_text_injective}

pub laws : Lawful (λ (a b : StorePrefix). compare_bytes (prefix_text a) (prefix_text b))
laws = lawful_by bytes_lawful prefix_text prefix_text_injective
