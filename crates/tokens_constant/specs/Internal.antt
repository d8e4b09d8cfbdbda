-- What the private functions compute.
use Rattle.std.specs.Prelude.{ℕ, ◌<◌, ◌≡◌, List, [], drop, Option, Some, None}
use Rattle.source.specs.Tokens.{Text, text, unclosed, longer, text_at}
use Rattle.tokens_constant.specs.declared.Character.{Character}
use Rattle.tokens_constant.specs.declared.Character.TheVariants.{Plain, Close}

abbrev pub character_in : List ℕ → Option Character → Text
character_in cells (Some (Plain c q)) = longer c (text_at (drop q cells))
character_in cells (Some (Close q)) = text [] (drop q cells)
character_in cells None = unclosed

abbrev pub Onward : ℕ → Option Character → Type 0
Onward at (Some (Plain c q)) = (at < q) × (c < 256)
Onward at (Some (Close q)) = at < q
Onward at None = Unit {0}

pub record CharacterIs (cells : List ℕ) (at : ℕ) (r : Option Character) : Type 0 where
  pub same : character_in cells r ≡ text_at (drop at cells)
  pub onward : Onward at r
