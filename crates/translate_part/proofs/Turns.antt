-- One instruction, and the loop over them.
use Prim.Native.Nat.{ℕ, ◌+◌, ◌≤◌, ◌<◌}
use mathlib.Core.Path.{◌≡◌, refl, sym, subst}
use Rattle.std.specs.Prelude.{Option, None, Some}
use mathlib.Core.List.{List, [], ◌∷◌}
use native.Mathlib.Omega.{arith}
use lib.ListN.{length}
use Rattle.order.specs.declared.Order.{Order}
use Rattle.order.specs.declared.Order.TheVariants.{Jump}
use Rattle.sheet_field.specs.Memory.{fields_at}
use Rattle.translate_expression.specs.declared.Spot.{Spot}
use Rattle.translate_expression.specs.Internal.{Puts}
use Rattle.translate_part.specs.declared.Opening.TheVariants.{Last, Goto as Jumps, If as Asks}
use Rattle.translate_part.specs.Internal.{first_opening, Ending, Parting, Choosing, Onward, Turning}
use Rattle.translate_part.proofs.Parts.{part_ends, last_whole, goto_whole, if_whole}

module _ (fs : List ℕ) (word : ℕ) (s : Spot) (out : List ℕ) where
  turned : (r : Spot) (after : List ℕ) → Onward fs word s out r after → Turning fs word s out (Some r) after
  turned r after p = record {
    more = λ q e. let same : r ≡ q = cc in subst (λ x. Onward fs word s out x after) same p;
    done = λ e. let z : ◌≡◌ {A = ℕ} 0 1 = cc in absurd (omega arith);
  }

  pub last_turn :
      (o : Order)
      → Some (Last o) ≡ first_opening (fields_at s.at fs)
      → s.at < length fs
      → (r : Spot) (after : List ℕ)
      → Ending fs (s.at + 1) o word s.i out r after
      → Turning fs word s out (Some r) after
  last_turn o known inside r after p =
      turned r after
      (record {
        on = omega (arith, p.on);
        inside = inside;
        onward = λ t last q. record { on = omega (arith, p.on, q.on); whole = last_whole fs word s.at s.i out r after t last q o known p };
      })

  pub goto_turn :
      (n : ℕ)
      → Some (Jumps n) ≡ first_opening (fields_at s.at fs)
      → s.at < length fs
      → (k : ℕ) (after : List ℕ)
      → Puts (Jump n ∷ []) s.i out k after
      → Turning fs word s out (Some (record { at = s.at + 1; i = k })) after
  goto_turn n known inside k after p =
      turned _ after
      (record {
        on = omega arith;
        inside = inside;
        onward = λ t last q. record { on = omega (arith, q.on); whole = goto_whole fs word s.at s.i out _ after t last q n known refl p };
      })

  pub if_turn :
      Some Asks ≡ first_opening (fields_at s.at fs)
      → s.at < length fs
      → (r : Spot) (after : List ℕ)
      → Choosing fs (s.at + 1) word s.i out r after
      → Turning fs word s out (Some r) after
  if_turn known inside r after p =
      turned r after
      (record {
        on = omega (arith, p.on);
        inside = inside;
        onward = λ t last q. record { on = omega (arith, p.on, q.on); whole = if_whole fs word s.at s.i out r after t last q known p };
      })

  pub no_turn : None ≡ first_opening (fields_at s.at fs) → Turning fs word s out None out
  no_turn known = record {
    more = λ q e. let z : ◌≡◌ {A = ℕ} 0 1 = cc in absurd (omega arith);
    done = λ e. record { stop = sym known; same = refl };
  }

-- ---- the loop

-- what is right from s is right from where it began
pub record Loop (fs : List ℕ) (word : ℕ) (s₀ : Spot) (out₀ : List ℕ) (s : Spot) (out : List ℕ) : Type 0 where
  pub far : s₀.at ≤ s.at
  pub onward : (t : Spot) (last : List ℕ) → Parting fs s.at word s.i out t last → Parting fs s₀.at word s₀.i out₀ t last

module _ (fs : List ℕ) (word : ℕ) (s₀ : Spot) (out₀ : List ℕ) where
  pub loop_none : Loop fs word s₀ out₀ s₀ out₀
  loop_none = record { far = omega arith; onward = λ t last p. p }

  module _ (s : Spot) (out : List ℕ) (p : Loop fs word s₀ out₀ s out) where
    pub loop_more : (n : Option Spot) (r : Spot) (after : List ℕ) → n ≡ Some r → Turning fs word s out n after → Loop fs word s₀ out₀ r after
    loop_more n r after e q =
        let one = q.more r e in
        record { far = omega (arith, p.far, one.on); onward = λ t last x. p.onward t last (one.onward t last x) }

    pub loop_ends : (n : Option Spot) (after : List ℕ) → n ≡ None → Turning fs word s out n after → Parting fs s₀.at word s₀.i out₀ s after
    loop_ends n after e q =
        let it = q.done e in
        p.onward s after (rw it.same (part_ends fs word s.at s.i out it.stop))
