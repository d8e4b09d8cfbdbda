-- A name: a letter, and the letters and digits after it.
use Prim.Native.Nat.{ℕ, suc, ◌+◌, ◌-◌, ◌<◌, ◌≤◌}
use mathlib.Core.Path.{◌≡◌, refl, sym, ap, ◌∙◌}
use mathlib.Core.Bool.{true}
use mathlib.Core.List.{List, [], ◌∷◌}
use native.Mathlib.Omega.{arith}
use lib.ListN.{length, get_or, take, drop, length-drop}
use Rattle.std.proofs.Common.{Ok, drop-drop}
use Rattle.std.proofs.Math.Seq.{take-length}
use Rattle.std.specs.List.{prefix_len}
use Rattle.base.specs.Choice.{pick}
use Rattle.base.proofs.Cases.{by_test}
use Rattle.base.proofs.Lists.{drop_more}
use Rattle.source.specs.Cells.{is_capital}
use Rattle.source.specs.Tokens.{in_name, run, past_run, name_at}
use Rattle.tokens_fixed.specs.declared.One.TheVariants.{Name}
use Rattle.tokens_fixed.specs.Answers.{Is}

one_plus : (n : ℕ) → 1 + n ≡ suc n
one_plus n = omega arith

pub name_counted : (cells : List ℕ) → length (take (prefix_len in_name cells) cells) ≡ length (run in_name cells)
unfolding run pick
name_counted [] = refl
name_counted (c ∷ l) = by_test (in_name c) (λ e. rw (e, one_plus (prefix_len in_name l)) (ap suc (name_counted l))) (λ e. rw e refl)

run_taken : (cells : List ℕ) → take (length (run in_name cells)) cells ≡ run in_name cells
unfolding run pick
run_taken [] = refl
run_taken (c ∷ l) = by_test (in_name c) (λ e. rw e (ap (λ r. c ∷ r) (run_taken l))) (λ e. rw e refl)

run_passed : (cells : List ℕ) → drop (length (run in_name cells)) cells ≡ past_run in_name cells
unfolding run past_run pick
run_passed [] = refl
run_passed (c ∷ l) = by_test (in_name c) (λ e. rw e (run_passed l)) (λ e. rw e refl)

run_inside : (cells : List ℕ) → length (run in_name cells) ≤ length cells
unfolding run pick
run_inside [] = omega arith
run_inside (c ∷ l) = by_test (in_name c) (λ e. let more = run_inside l in rw e (omega (arith, more))) (λ e. rw e (omega arith))

-- a slice from a place on
rest_of : (cells : List ℕ) (k : ℕ) → take (length cells - k) (drop k cells) ≡ drop k cells
rest_of cells k = rw (← length-drop k cells) (take-length (drop k cells))

pub name_is : (cells : List ℕ) (at n : ℕ) → at < length cells → is_capital (get_or cells at 0) ≡ true
    → n ≡ length (run in_name (take (length cells - (at + 1)) (drop (at + 1) cells))) → Is cells at (Ok (Name (at + 1 + n))) (name_at (get_or cells at 0 ∷ drop (at + 1) cells))
unfolding run past_run pick
name_is cells at n h e told =
    let count : n ≡ length (run in_name (drop (at + 1) cells)) = (rw (rest_of cells (at + 1)) at told) in
    let length_of : at + 1 + n - at ≡ suc n = omega arith in
    let taken : take n (drop (at + 1) cells) ≡ run in_name (drop (at + 1) cells) = rw count (run_taken (drop (at + 1) cells)) in
    let behind : drop (at + 1 + n) cells ≡ past_run in_name (drop (at + 1) cells) =
    sym (drop-drop n (at + 1) cells) ∙ (rw count (run_passed (drop (at + 1) cells))) in
    let inside : length (run in_name (drop (at + 1) cells)) ≤ length (drop (at + 1) cells) = run_inside (drop (at + 1) cells) in
    let size : length (drop (at + 1) cells) ≡ length cells - (at + 1) = length-drop (at + 1) cells in
    record {
      same = rw (e, drop_more cells at 0 h, length_of, taken, behind) refl;
      sound = (omega arith, omega arith);
    }

pub name_fits : (cells : List ℕ) (at n : ℕ) → at < length cells → n ≡ length (run in_name (take (length cells - (at + 1)) (drop (at + 1) cells)))
    → at + 1 + n ≤ length cells
name_fits cells at n h told =
    let inside : length (run in_name (drop (at + 1) cells)) ≤ length (drop (at + 1) cells) = run_inside (drop (at + 1) cells) in
    let count : n ≡ length (run in_name (drop (at + 1) cells)) = (rw (rest_of cells (at + 1)) at told) in
    let size : length (drop (at + 1) cells) ≡ length cells - (at + 1) = length-drop (at + 1) cells in
    omega arith
