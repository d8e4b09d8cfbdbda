-- What stands at each of some places: tables and what two arrays hold are read so.
use Rattle.std.specs.Prelude.{ℕ, zero, suc, List, [], ◌∷◌}

-- what f gives of n places from k on
unfoldable pub each : {A : Type 0} → (ℕ → A) → ℕ → ℕ → List A
each f k zero = []
each f k (suc n) = f k ∷ each f (suc k) n
