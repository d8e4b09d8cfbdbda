-- The cells of a source whose bytes are allowed are below 128.
use Prim.Native.Nat.{ℕ, zero, suc, ◌+◌, ◌-◌, ◌<◌}
use mathlib.Core.Path.{◌≡◌}
use mathlib.Core.Bool.{true}
use mathlib.Core.List.{List, [], ◌∷◌, ◌++◌}
use native.Mathlib.Omega.{arith}
use borrow.Author.Tests.{leb-true, eqb-true}
use lib.Dec.{leb, ltb, eqb}
use lib.ListN.{length, take}
use Rattle.base.specs.Choice.{pick}
use Rattle.base.proofs.Cases.{by_test, both_yes, chosen_first, either_part}
use Rattle.source.proofs.Each.{Each, each_append}
use Rattle.source.specs.declared.Mode.{Mode}
use Rattle.source.specs.declared.Mode.TheVariants.{Plain, Keyword, Quoted, Comment}
use Rattle.source.specs.Limits.{most_cells}
use Rattle.source.specs.Cells.{is_capital, is_small, capital, small, Turn, goes_on, ends, over, room_for, kept, closes, ends_in_c, newline, exclamation}
use Rattle.source.specs.Cells.{outside, turn, Statements, ended, cut, ◌then◌, at_last, source_end, on_turn, statements_from}
use Rattle.source.specs.Source.{is_allowed, not_allowed, offset, all_allowed}

abbrev pub Small : ℕ → Type 0
Small b = b < 128

abbrev pub AllSmall : Statements → Type 0
AllSmall ended = Unit {0}
AllSmall (cut n) = Unit {0}
AllSmall (cells then more) = Each Small cells × AllSmall more

-- ---- bytes

allowed_one : (b : ℕ) → is_allowed b ≡ true → Small b
unfolding pick
allowed_one b e =
    by_test (eqb b 10)
    (λ y. let is = eqb-true b 10 y in omega (arith, is))
    (λ n. let most = leb-true b 126 (both_yes (leb 32 b) (leb b 126) (rw n at e)).1 in omega (arith, most))

pub allowed_small : (i : ℕ) (bs : List ℕ) → not_allowed i bs ≡ all_allowed → Each Small bs
unfolding not_allowed
allowed_small i [] e = tt
allowed_small i (b ∷ bs) e =
    let both =
    chosen_first (is_allowed b) (not_allowed (suc i) bs) (offset i) all_allowed
    (λ q. let z : ◌≡◌ {A = ℕ} 0 1 = cc in absurd (omega arith))
    e in
    (allowed_one b both.0, allowed_small (suc i) bs both.1)

capital_small : (b : ℕ) → Small b → Small (capital b)
capital_small b h = either_part Small (is_small b) (b - 32) b (λ y. omega arith) (λ n. h)

small_small : (b : ℕ) → Small b → Small (small b)
small_small b h =
    either_part Small (is_capital b) (b + 32) b
    (λ y. let most = leb-true b 90 (both_yes (leb 65 b) (leb b 90) y).1 in omega (arith, most))
    (λ n. h)

-- ---- one byte

abbrev TurnSmall : Turn → Type 0
TurnSmall (goes_on m cells) = Each Small cells
TurnSmall (ends cells) = Each Small cells
TurnSmall over = Unit {0}

each_take : (n : ℕ) (l : List ℕ) → Each Small l → Each Small (take n l)
each_take zero l h = tt
each_take (suc n) [] h = tt
each_take (suc n) (a ∷ l) h = (h.0, each_take n l h.1)

module _ (cells : List ℕ) (held : Each Small cells) where
  room_small : (t : Turn) → TurnSmall t → TurnSmall (room_for cells t)
  room_small t h = either_part TurnSmall (ltb (length cells) most_cells) t over (λ y. h) (λ n. tt)

  kept_small : (c : ℕ) (m : Mode) → Small c → TurnSmall (kept c m cells)
  kept_small c m h = room_small (goes_on m (cells ++ c ∷ [])) (each_append Small cells (c ∷ []) held (h, tt))

  closes_small : TurnSmall (closes cells)
  closes_small =
      either_part TurnSmall (eqb (length cells) 0) (goes_on Plain cells) (room_for cells (ends cells))
      (λ y. held)
      (λ n. room_small (ends cells) held)

  newline_small : TurnSmall (newline cells)
  newline_small =
      let front = take (length cells - 1) cells in
      either_part TurnSmall (ends_in_c cells) (room_for cells (goes_on Plain front)) (closes cells)
      (λ y. room_small (goes_on Plain front) (each_take (length cells - 1) cells held))
      (λ n. closes_small)

  exclamation_small : TurnSmall (exclamation cells)
  exclamation_small =
      either_part TurnSmall (eqb (length cells) 0) (goes_on Comment cells) (kept 33 Plain cells)
      (λ y. held)
      (λ n. kept_small 33 Plain (omega arith))

  outside_small : (c : ℕ) (m : Mode) (b : ℕ) → Small c → Small b → TurnSmall (outside c m b cells)
  unfolding outside
  outside_small c m b hc hb =
      either_part TurnSmall (pick (is_capital b) true (is_small b)) _ _
      (λ y. kept_small c m hc)
      (λ n. either_part TurnSmall (eqb b 32) _ _
      (λ y. held)
      (λ n. either_part TurnSmall (eqb b 10) _ _
      (λ y. newline_small)
      (λ n. either_part TurnSmall (eqb b 37) _ _
      (λ y. held)
      (λ n. either_part TurnSmall (eqb b 39) _ _
      (λ y. kept_small b Quoted hb)
      (λ n. either_part TurnSmall (eqb b 59) _ _
      (λ y. closes_small)
      (λ n. either_part TurnSmall (eqb b 33) _ _ (λ y. exclamation_small) (λ n. kept_small b Plain hb)))))))

  turn_small : (m : Mode) (b : ℕ) → Small b → TurnSmall (turn m b cells)
  unfolding turn
  turn_small Plain b h = outside_small (capital b) Plain b (capital_small b h) h
  turn_small Keyword b h = outside_small (small b) Keyword b (small_small b h) h
  turn_small Quoted b h = kept_small b (pick (eqb b 39) Plain Quoted) h
  turn_small Comment b h = held

-- ---- all bytes

last_small : (t : Turn) → TurnSmall t → AllSmall (at_last t)
last_small (goes_on m cells) h = tt
last_small (ends cells) h = (h, tt)
last_small over h = tt

end_small : (m : Mode) (cells : List ℕ) → Each Small cells → AllSmall (source_end m cells)
unfolding source_end
end_small Plain cells h =
    either_part AllSmall (ends_in_c cells) (cut 3) (at_last (newline cells))
    (λ y. tt)
    (λ n. last_small (newline cells) (newline_small cells h))
end_small Keyword cells h =
    either_part AllSmall (ends_in_c cells) (cut 3) (at_last (newline cells))
    (λ y. tt)
    (λ n. last_small (newline cells) (newline_small cells h))
end_small Quoted cells h = tt
end_small Comment cells h = tt

on_turn_small :
    (t : Turn) (rest : Mode → List ℕ → Statements)
    → TurnSmall t
    → ((n : Mode) (held : List ℕ) → Each Small held → AllSmall (rest n held))
    → AllSmall (on_turn t rest)
unfolding on_turn
on_turn_small (goes_on m cells) rest h k = k m cells h
on_turn_small (ends cells) rest h k = (h, k Plain [] tt)
on_turn_small over rest h k = tt

pub statements_small : (m : Mode) (cells bs : List ℕ) → Each Small cells → Each Small bs → AllSmall (statements_from m cells bs)
unfolding statements_from
statements_small m cells [] h k = end_small m cells h
statements_small m cells (b ∷ bs) h k =
    on_turn_small (turn m b cells) (λ n held. statements_from n held bs) (turn_small cells h m b k.0)
    (λ n held small_held. statements_small n held bs small_held k.1)
