-- The sign that stands at a place, where its first two characters are a pair.
use Prim.Native.Nat.{ℕ, ◌+◌, ◌<◌}
use mathlib.Core.Path.{◌≡◌, ap, ◌∙◌}
use mathlib.Core.List.{List, [], ◌∷◌}
use native.Mathlib.Omega.{arith}
use borrow.Author.Tests.{ne_eqb}
use lib.ListN.{length, get_or, drop, get_or-eq_default}
use Rattle.std.proofs.Common.{Some, Ok}
use Rattle.base.specs.Choice.{pick}
use Rattle.base.specs.Text.{bytes}
use Rattle.base.specs.Front.{missing, on_front}
use Rattle.base.proofs.Cases.{by_less, by_equal}
use Rattle.base.proofs.Lists.{drop_more}
use Rattle.text.specs.Pieces.{fixed}
use Rattle.source.specs.declared.Token.{Token}
use Rattle.source.specs.Memory.{token_kind}
use Rattle.source.specs.Tokens.{pairs, first_of, sign_at}
use Rattle.tokens_fixed.specs.declared.One.TheVariants.{Token as TokenAt}
use Rattle.tokens_fixed.specs.Answers.{Is}
use Rattle.tokens_fixed.specs.Internal.{taken}

-- no pair ends in 0, which is read behind the last cell
no_second : (c : ℕ) → first_of pairs (c ∷ 0 ∷ []) ≡ missing
unfolding first_of fixed on_front bytes pick
no_second c =
    by_equal c 42 (λ e. rw e) (λ m.
    by_equal c 60 (λ e. rw e) (λ n.
    by_equal c 62 (λ e. rw e) (λ o.
    by_equal c 33 (λ e. rw e) (λ p.
    by_equal c 45 (λ e. rw e) (λ q. rw (ne_eqb c 42 m, ne_eqb c 60 n, ne_eqb c 62 o, ne_eqb c 33 p, ne_eqb c 45 q))))))

pub pair_sign : (cells : List ℕ) (at c : ℕ) (t : Token)
    → ((l : List ℕ) → taken l (Some t) ≡ first_of pairs (c ∷ get_or cells (at + 1) 0 ∷ l)) → 0 < token_kind t
    → Is cells at (Ok (TokenAt t (at + 2))) (sign_at c (drop (at + 1) cells))
unfolding on_front
pair_sign cells at c t pair kind =
    by_less (at + 1) (length cells)
    (λ h.
    let two : at + 1 + 1 ≡ at + 2 = omega arith in
    record {
      same = rw (drop_more cells (at + 1) 0 h, two, ← pair (drop (at + 2) cells));
      sound = (omega arith, kind);
    })
    (λ h.
    let z : taken [] (Some t) ≡ missing = pair [] ∙ ap (λ d. first_of pairs (c ∷ d ∷ [])) (get_or-eq_default cells 0 {n = at + 1} h) ∙ no_second c in
    let no : ◌≡◌ {A = ℕ} 0 1 = cc in absurd (omega arith))
