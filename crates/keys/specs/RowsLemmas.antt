-- Rows in order, and by their texts.
use Rattle.std.specs.Prelude.{◌≡◌, ◌<◌, length, take}
use Rattle.std.proofs.Common.{sym, ap, ◌∙◌, arith, length-take}
use Rattle.order.specs.Orders.{Lawful}
use Rattle.order.proofs.Orders.{lawful_by, numbers_lawful, pairs_lawful, ties, total_order}
use Rattle.std.specs.Prelude.{Decides, ◌&&◌, ◌==◌}
use Rattle.std.specs.Str.{bytes_eq}
use Rattle.std.specs.Ordering.{is_eq, as_partial_cmp}
use Rattle.std.specs.Cmp.{IsTotalOrder, IsPartialOrder, partial_order_from_total, partial_order_from_own_ties}
use Rattle.std.proofs.lemmas.Bool.Decides.{Decides-and, Decides-eqb, Decides-like}
use Rattle.std.proofs.lemmas.Slice.Eq.{bytes_eq-Decides}
use Rattle.std.proofs.lemmas.List.{take_all}
use Rattle.keys.specs.Text.{Bytes, padded}
use Rattle.keys.specs.Rows.{row_text, RowOf, compare_rows}
use Rattle.keys.specs.declared.row.Row.{Row}
use Rattle.keys.specs.ByteOrderLemmas.{bytes_lawful}
use Rattle.keys.specs.Padded.{take-padded}

pub same_row : (a b : Row) → a.bytes ≡ b.bytes → a.len ≡ b.len → a ≡ b
same_row a b e f = λ i. record { bytes = e i; len = f i }

pub rows_lawful : Lawful compare_rows
rows_lawful =
    lawful_by
    (pairs_lawful bytes_lawful (pairs_lawful bytes_lawful numbers_lawful))
    (λ (w : Row). (row_text w, (w.bytes, w.len)))
    (λ a b e. same_row a b (ap (λ p. p.1.0) e) (ap (λ p. p.1.1) e))

-- the text of a row whose length passes it is all of its bytes
pub row_text_past : (w : Row) → length w.bytes ≡ 121 → 121 < w.len → w.bytes ≡ row_text w
row_text_past w n l = sym (take_all w.len w.bytes (omega arith))

pub row_of_padded : (t : Bytes) (w : Row) → w.len ≡ length t → w.bytes ≡ padded 121 t → RowOf t w
row_of_padded t w n e = record { words = ap (λ k. take k w.bytes) n ∙ take-padded 121 t w.bytes e; long = n; bytes = e }

-- rows made of one text are equal
pub row_of_unique : (t : Bytes) (a b : Row) → RowOf t a → RowOf t b → a ≡ b
row_of_unique t a b p q = same_row a b (p.bytes ∙ sym q.bytes) (p.long ∙ sym q.long)

-- a row too long for a key has a text too long for one
pub long_row_text : (w : Row) → length w.bytes ≡ 121 → 120 < w.len → 120 < length (row_text w)
long_row_text w n l = simp length-take (omega arith)

-- `==` of rows holds exactly where they compare equal
pub rows_tie : (a b : Row) → ((a.len == b.len) && bytes_eq a.bytes b.bytes) ≡ is_eq (compare_rows a b)
rows_tie = ties rows_lawful (λ (x y : Row). (x.len == y.len) && bytes_eq x.bytes y.bytes) (λ a b. decided a b)
  where
    decided : (a b : Row) → Decides ((a.len == b.len) && bytes_eq a.bytes b.bytes) (a ≡ b)
    decided a b =
        Decides-like
        ((a.len == b.len) && bytes_eq a.bytes b.bytes)
        (λ h. same_row a b h.1 h.0)
        (λ e. (ap (λ (w : Row). w.len) e, ap (λ (w : Row). w.bytes) e))
        (Decides-and (a.len == b.len) (bytes_eq a.bytes b.bytes) (Decides-eqb a.len b.len) (bytes_eq-Decides a.bytes b.bytes))

pub rows_total : IsTotalOrder compare_rows
rows_total = total_order rows_lawful

pub rows_partial : IsPartialOrder (λ (a b : Row). (a.len == b.len) && bytes_eq a.bytes b.bytes) (as_partial_cmp compare_rows)
rows_partial = partial_order_from_own_ties (partial_order_from_total rows_total) rows_tie
