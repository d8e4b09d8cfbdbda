-- Reading a sheet back from orders: the translation of a sheet gives that sheet; a sheet that is given is within the limits
-- and translates to the orders that gave it; where none is given no sheet does. So no two sheets have one translation.
use Prim.Native.Nat.{ℕ}
use mathlib.Core.Path.{◌≡◌, refl, sym, ap, ◌∙◌}
use mathlib.Core.Bool.{true}
use mathlib.Core.List.{List}
use native.Mathlib.Omega.{arith}
use borrow.Author.Tests.{le-leb, leb-true, eq-eqb, eqb-true}
use lib.Dec.{leb, eqb}
use Rattle.base.specs.Choice.{pick}
use Rattle.base.proofs.Cases.{both_yes, chosen_first}
use Rattle.order.specs.declared.Order.{Order}
use Rattle.order.specs.Good.{Good}
use Rattle.sheet.specs.Sheet.{Part, count, Sheet, sheet, variables}
use Rattle.sheet.specs.Translation.{temporaries_of, sheet_temporaries, translation}
use Rattle.sheet.specs.Within.{most_levels, depth, Within}
use Rattle.sheet.specs.Guess.{guessed}
use Rattle.sheet.specs.ReadBack.{is_part_formed, given, none, accepts, untranslate}
use Rattle.sheet.proofs.Checking.{also_yes, part_yes, part_told, same_yes, same_told}
use Rattle.sheet.proofs.Guessing.{guess_right}

pub read_back_law : (s : Sheet) → Within s → untranslate (variables s) (sheet_temporaries s) (translation s) ≡ given s
unfolding pick
read_back_law (sheet v x) w =
    rw (guess_right v x w.formed w.few_levels)
    (ap (λ t. pick t (given (sheet v x)) none)
    (also_yes _ _ (part_yes v (count x) x w.formed)
    (also_yes _ _ (le-leb (depth x) most_levels w.few_levels)
    (also_yes _ _ (eq-eqb (temporaries_of x) (temporaries_of x) refl) (same_yes (translation (sheet v x)))))))

-- ---- what is given

not_given : {P : Type 0} (s : Sheet) → none ≡ given s → P
not_given s e = let z : ◌≡◌ {A = ℕ} 0 1 = cc in absurd (omega arith)

-- a guess that is accepted
accepted :
    (v t : ℕ) (os : List Order) (x : Part)
    → Good v t os
    → accepts v t os x ≡ true
    → Within (sheet v x) × (temporaries_of x ≡ t) × (translation (sheet v x) ≡ os)
accepted v t os x g e =
    let all = both_yes (is_part_formed v (count x) x) _ e in
    let levels = both_yes (leb (depth x) most_levels) _ all.1 in
    let rest = both_yes (eqb (temporaries_of x) t) _ levels.1 in
    let used = eqb-true (temporaries_of x) t rest.0 in
    let whole = same_told (translation (sheet v x)) os rest.1 in (
      record {
        formed = part_told v (count x) x all.0;
        few_levels = leb-true (depth x) most_levels levels.0;
        few_variables = g.variables;
        few_temporaries = rw used g.temporaries;
        few_orders = rw whole g.few_orders;
      },
      used,
      whole,
    )

pub given_translates :
    (v t : ℕ) (os : List Order) (s : Sheet)
    → Good v t os
    → untranslate v t os ≡ given s
    → Within s × (variables s ≡ v) × (sheet_temporaries s ≡ t) × (translation s ≡ os)
given_translates v t os s g e =
    let x = guessed v os in
    let chosen = chosen_first (accepts v t os x) (given (sheet v x)) none (given s) (not_given s) e in
    let so = accepted v t os x g chosen.0 in
    let last = chosen.1 in
    let it : sheet v x ≡ s = cc in
    rw (← it) (so.0, refl, so.1, so.2)

-- ---- what follows

pub none_translates :
    (v t : ℕ) (os : List Order)
    → Good v t os
    → untranslate v t os ≡ none
    → (s : Sheet)
    → Within s
    → variables s ≡ v
    → sheet_temporaries s ≡ t
    → translation s ≡ os
    → ⊥
none_translates v t os g e s w a b c = not_given s (sym e ∙ rw (← a, ← b, ← c) (read_back_law s w))

pub translation_injective :
    (s q : Sheet)
    → Within s
    → Within q
    → variables s ≡ variables q
    → sheet_temporaries s ≡ sheet_temporaries q
    → translation s ≡ translation q
    → s ≡ q
translation_injective s q w x a b c =
    let both : given s ≡ given q = sym (read_back_law s w) ∙ rw (a, b, c) (read_back_law q x) in
    cc
