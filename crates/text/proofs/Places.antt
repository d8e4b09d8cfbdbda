-- The place behind a number that was read: what was read is its digits and the byte that closes its field.
use Prim.Native.Nat.{ℕ, suc, ◌+◌, ◌-◌, ◌<◌, ◌≤◌}
use mathlib.Core.Path.{◌≡◌, sym, ap, ◌∙◌}
use mathlib.Core.List.{List, ◌∷◌}
use native.Mathlib.Omega.{arith}
use lib.ListN.{length, get_or, drop, length-drop, length-append}
use Rattle.std.specs.Prelude.{Option, Some, None}
use Rattle.text.specs.Pieces.{decimal, digits, numeral}
use Rattle.text.specs.Internal.{number_found, NumberPlace, NumberWithin}
use Rattle.text.proofs.Decimal.{decimal_numeral}
use Rattle.text.proofs.Turns.{numeral_here, a_digit}

number_place :
    (s : List ℕ) (at close : ℕ) (r : Option (ℕ × ℕ))
    → number_found s r ≡ numeral close (drop at s)
    → NumberWithin (length s) r
    → NumberPlace at r
number_place s at close None e within = tt
number_place s at close (Some (v, i)) e within =
    let read = (decimal_numeral close v (drop at s) (drop i s) (sym e)).0 in
    let both : length (drop at s) ≡ length (decimal v) + suc (length (drop i s)) =
    ap length read ∙ length-append (decimal v) (close ∷ drop i s)
    in
    omega (arith, both, length-drop at s, length-drop i s, within)

-- the first digit b, and what is read behind it
pub with_place :
    (s : List ℕ) (at close : ℕ) (r : Option (ℕ × ℕ)) (b : ℕ)
    → at < length s
    → b ≡ get_or s at 0
    → (48 ≤ b) × (b ≤ 57)
    → number_found s r ≡ digits close (b - 48) (drop (at + 1) s)
    → NumberWithin (length s) r
    → (number_found s r ≡ numeral close (drop at s)) × NumberPlace at r
with_place s at close r b here byte digit e within = (read, number_place s at close r read within)
  where
    read : number_found s r ≡ numeral close (drop at s)
    read = rw (numeral_here s close at b here byte) (e ∙ a_digit b _ digit)
