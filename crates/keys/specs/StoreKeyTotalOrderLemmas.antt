use Rattle.order.proofs.Orders.{lawful_by}
use Rattle.order.specs.Orders.{Lawful}
use Rattle.keys.specs.ByteOrder.{compare_bytes}
use Rattle.keys.specs.StoreKeys.{text}
use Rattle.keys.specs.declared.store_key.StoreKey.{StoreKey}
use Rattle.keys.specs.ByteOrderLemmas.{bytes_lawful}
use Rattle.keys.specs.StoreKeysLemmas.{text_injective}

pub laws : Lawful (λ (a b : StoreKey). compare_bytes (text a) (text b))
laws = lawful_by bytes_lawful text text_injective
