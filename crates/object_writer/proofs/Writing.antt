-- Writing an object's text: what each function puts into the buffer, and the lengths of the parts.
use Prim.Native.Nat.{ℕ, suc, ◌+◌, ◌<◌, ◌≤◌}
use mathlib.Core.Path.{◌≡◌, refl, sym, ap}
use mathlib.Core.List.{List, [], ◌++◌}
use native.Mathlib.Omega.{arith}
use lib.ListN.{length, get_or, drop, length-append, length-map, drop_of_length-le}
use Rattle.base.specs.Text.{bytes}
use Rattle.base.proofs.Lists.{drop_more}
use Rattle.text.specs.Pieces.{decimal}
use Rattle.text.specs.Internal.{Placed, put_byte, put_all}
use Rattle.text.proofs.Writing.{put_all_append}
use Rattle.order.specs.declared.Order.{Order}
use Rattle.order.specs.Memory.{order_in, orders_in}
use Rattle.order.specs.Object.{record_text, records_text, header_text, text}

-- ---- the header

module _ (v t n : ℕ) where
  pub put_fields :
      (p : Placed)
      → put_byte 10 (put_all (decimal n) (put_byte 9 (put_all (decimal t) (put_byte 9 (put_all (decimal v) (put_all (bytes "BOX\t") p))))))
      ≡ put_all (header_text v t n) p
  unfolding put_all
  put_fields p = sym (simp put_all_append)

  pub header_length : length (header_text v t n) ≡ length (decimal v) + length (decimal t) + length (decimal n) + 7
  unfolding bytes
  header_length =
      let fields : length (header_text v t n) ≡ 4 + length (decimal v) + suc (length (decimal t)) + suc (length (decimal n)) + 1 = simp length-append in
      omega (arith, fields)

-- ---- the loops over the records

module _ (ws : List ℕ) where
  -- the text of the records that are left at place i
  abbrev pub left_text : ℕ → List ℕ
  left_text i = records_text (orders_in (drop i ws))

  left_more : (i : ℕ) (o : Order) → o ≡ order_in (get_or ws i 0) → i < length ws → left_text i ≡ record_text o ++ left_text (i + 1)
  unfolding records_text
  left_more i o e h = rw e (ap (λ l. records_text (orders_in l)) (drop_more ws i 0 h))

  left_none : (i : ℕ) → length ws ≤ i → left_text i ≡ []
  unfolding records_text
  left_none i h = ap (λ l. records_text (orders_in l)) (drop_of_length-le ws h)

  -- the text is the header's and the records'
  text_parts : (v t : ℕ) → text v t (orders_in ws) ≡ header_text v t (length ws) ++ records_text (orders_in ws)
  unfolding text
  text_parts v t = rw (length-map ws order_in) refl

  pub count_start : (v t h : ℕ) → h ≡ length (header_text v t (length ws)) → h + length (left_text 0) ≡ length (text v t (orders_in ws))
  count_start v t h e = rw (e, text_parts v t) (sym (length-append (header_text v t (length ws)) (records_text (orders_in ws))))

  pub count_turn :
      (i : ℕ) (o : Order)
      → o ≡ order_in (get_or ws i 0)
      → i < length ws
      → length (left_text i) ≡ length (record_text o) + length (left_text (i + 1))
  count_turn i o e h = rw (left_more i o e h) (length-append (record_text o) (left_text (i + 1)))

  pub count_over : (i : ℕ) → length ws ≤ i → length (left_text i) ≡ 0
  count_over i h = rw (left_none i h) refl

  pub records_turn :
      (i : ℕ) (o : Order) (p : Placed)
      → o ≡ order_in (get_or ws i 0)
      → i < length ws
      → put_all (left_text (i + 1)) (put_all (record_text o) p) ≡ put_all (left_text i) p
  records_turn i o p e h = rw (left_more i o e h) (sym (put_all_append (record_text o) (left_text (i + 1)) p))

  pub records_over : (i : ℕ) (p : Placed) → length ws ≤ i → p ≡ put_all (left_text i) p
  unfolding put_all
  records_over i p h = rw (left_none i h) refl

  pub put_text :
      (v t : ℕ) (p : Placed)
      → put_all (records_text (orders_in ws)) (put_all (header_text v t (length ws)) p) ≡ put_all (text v t (orders_in ws)) p
  put_text v t p = rw (text_parts v t) (sym (put_all_append (header_text v t (length ws)) (records_text (orders_in ws)) p))
