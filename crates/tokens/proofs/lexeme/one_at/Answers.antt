use native.Mathlib.Omega.{arith}
use Rattle.tokens.proofs.Names.{name_fits}
use Rattle.tokens.proofs.FirstCells.{keyword_here, name_here, decimal_here, quoted_here, sign_here}
use Rattle.tokens.proofs.lexeme.one_at.Goals.{in_default-via-then-c-lt48, in_default-via-else-c-lt48+else-c-lt58+then-c-lt65, in_default-via-else-c-lt48+else-c-lt58+else-c-lt65+else-c-lt91+then-c-lt97, in_default-via-else-c-lt48+else-c-lt58+else-c-lt65+else-c-lt91+else-c-lt97+else-c-lt123}
use Rattle.tokens.proofs.lexeme.one_at.Goals as goal

pub returns-in-97-to-122 : goal.returns-in-97-to-122
returns-in-97-to-122 c = keyword_here _ _ c.requires _ (omega arith) (omega arith) c.keyword_at.ensures

pub overflow_add-result-in-65-to-90 : goal.overflow_add-result-in-65-to-90
overflow_add-result-in-65-to-90 c = let inside = name_fits _ _ _ c.requires c.name_length.ensures in record { fits = omega arith }

pub returns-in-65-to-90 : goal.returns-in-65-to-90
returns-in-65-to-90 c = name_here _ _ c.requires _ (omega arith) (omega arith) c.name_length.ensures

pub returns-in-48-to-57 : goal.returns-in-48-to-57
returns-in-48-to-57 c = decimal_here _ _ c.requires _ (omega arith) (omega arith) c.decimal_from.ensures

pub returns-in-39 : goal.returns-in-39
returns-in-39 c = quoted_here _ _ c.requires _ c.in-39.is c.quoted_from.ensures

pub returns-in_default : goal.returns-in_default
returns-in_default c =
    elim c.in_default.branch [
      | in_default-via-then-c-lt48 w ↦ sign_here _ _ c.requires _ (λ a b. omega arith) (λ a b. omega arith) (λ a b. omega arith) (λ e. omega arith) c.sign_at.ensures
      | in_default-via-else-c-lt48+else-c-lt58+then-c-lt65 w ↦ sign_here _ _ c.requires _ (λ a b. omega arith) (λ a b. omega arith) (λ a b. omega arith) (λ e. omega arith) c.sign_at.ensures
      | in_default-via-else-c-lt48+else-c-lt58+else-c-lt65+else-c-lt91+then-c-lt97 w ↦ sign_here _ _ c.requires _ (λ a b. omega arith) (λ a b. omega arith) (λ a b. omega arith) (λ e. omega arith) c.sign_at.ensures
      | in_default-via-else-c-lt48+else-c-lt58+else-c-lt65+else-c-lt91+else-c-lt97+else-c-lt123 w ↦ sign_here _ _ c.requires _ (λ a b. omega arith) (λ a b. omega arith) (λ a b. omega arith) (λ e. omega arith) c.sign_at.ensures
    ]
