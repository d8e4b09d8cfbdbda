-- What is read at the front of a list: of a text, or of the orders of a program.
use Rattle.std.specs.Prelude.{List}

-- what stands there, and the list behind it; or nothing of the form looked for
pub data FrontOf (E A : Type 0) : Type 0 where
  found : A → List E → FrontOf E A
  missing : FrontOf E A

-- what comes of each of the two
unfoldable pub on_front : {E A B : Type 0} → FrontOf E A → (A → List E → B) → B → B
on_front (found a rest) f b = f a rest
on_front missing f b = b
