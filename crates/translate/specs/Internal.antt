-- What the private functions do.
use Rattle.std.specs.Prelude.{ℕ, suc, ◌+◌, ◌-◌, ◌≡◌, Bool, true, false, List, [], ◌∷◌, map, length, get_or, set}
use Rattle.base.specs.Choice.{pick}
use Rattle.order.specs.declared.Order.{Order}
use Rattle.order.specs.declared.Order.TheVariants.{Word, Number, Store, Neg, Not, Jump, Skip, Branch, Cond, Send, Stop}
use Rattle.order.specs.Memory.{order_word, order_in, orders_in}
use Rattle.sheet.specs.Temporaries.{largest_stored}
use Rattle.sheet.specs.Beginnings.{inner, is_last, of_instruction, beginnings}
use Rattle.translate.specs.declared.Translated.{Translated}

-- ---- the first orders of instructions, noted

-- how many there are, and the array that holds them
pub data Noted : Type 0 where
  noted : ℕ → List ℕ → Noted

abbrev pub noted_by : Bool → Order → ℕ → Noted → Noted
noted_by here o i (noted n l) = pick (pick here (of_instruction o) false) (noted (n + 1) (set l n i)) (noted n l)

unfoldable pub table_from : ℕ → Bool → ℕ → ℕ → List Order → Noted → Noted
table_from v here k i [] s = s
table_from v here k i (o ∷ os) s = table_from v (is_last v k o) (inner k o) (suc i) os (noted_by here o i s)

abbrev pub table : ℕ → List ℕ → List ℕ → Noted
table v ws l = table_from v true 0 0 (orders_in ws) (noted 0 l)

-- ---- jumps led

abbrev pub led_by : List ℕ → ℕ → ℕ → Order → ℕ
led_by firsts last w (Word f x) = w
led_by firsts last w (Number f n) = w
led_by firsts last w (Store x) = w
led_by firsts last w Neg = w
led_by firsts last w Not = w
led_by firsts last w (Jump s) = order_word (Jump (get_or firsts (s - 1) last))
led_by firsts last w (Skip a) = w
led_by firsts last w (Branch r a) = w
led_by firsts last w (Cond n) = w
led_by firsts last w Send = w
led_by firsts last w Stop = w

-- an order's number, with the first order of its instruction where it is a jump
abbrev pub led_word : List ℕ → ℕ → ℕ → ℕ
led_word firsts last w = led_by firsts last w (order_in w)

abbrev pub led_all : ℕ → List ℕ → List ℕ
led_all v ws = map (led_word (beginnings v true 0 0 (orders_in ws)) (length ws - 1)) ws

pub record Finishes (v : ℕ) (ws : List ℕ) (r : Translated) (after : List ℕ) : Type 0 where
  pub led : after ≡ led_all v ws
  pub told : r ≡ record { temporaries = largest_stored v (orders_in after); orders = length ws }
