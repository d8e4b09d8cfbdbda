-- A call of run: what the array and the bytes on the way come to.
use Prim.Native.Nat.{ℕ, ◌+◌, ◌*◌, ◌≤◌}
use mathlib.Core.Path.{◌≡◌, refl, sym, ap, ◌∙◌}
use mathlib.Core.Bool.{true}
use mathlib.Core.List.{List, ◌++◌, map}
use native.Mathlib.Omega.{arith}
use lib.ListN.{length, get_or, take, length-map, get_or-eq_default}
use lib.Seq.{sets, length-take-le}
use Rattle.base.specs.Choice.{pick}
use Rattle.base.proofs.Cases.{by_less, pick_yes}
use Rattle.base.proofs.Lists.{sets_append, sets_whole, get_d_sets, get_d_sets_behind}
use Rattle.order.specs.declared.Order.{Order}
use Rattle.order.specs.declared.Order.TheVariants.{Stop}
use Rattle.order.specs.Limits.{most_orders, most_words}
use Rattle.order.specs.Memory.{order_word, order_in, orders_in}
use Rattle.order.specs.Object.{Reading, object, refused, reading, lines_of}
use Rattle.order.specs.Good.{Good}
use Rattle.order.proofs.Arrays.{Narrow, orders_in_law, good_narrow, order_at}
use Rattle.order.proofs.RoundTrip.{read_good, lines_read}
use Rattle.object_reader.specs.Answers.{good, verdict_of}
use Rattle.machine.specs.declared.Registers.{Registers}
use Rattle.machine.specs.Machine.{machine, ran, run}
use Rattle.machine.proofs.Alike.{run_same}
use Rattle.machine.proofs.Frame.{lengths_stay}
use Rattle.skimp_state.specs.State.{registers_of, register_bytes, words_at, words_bytes, state_bytes}
use Rattle.skimp_state.proofs.Bytes.{length_words, length_registers, length_state}
use Rattle.call.specs.Reply.{reply}
use Rattle.call.specs.Run.{call, refused_call, ran_call, state_fits, object_call, run_call}
use Rattle.call.proofs.Refused.{Refused}
use Rattle.call.proofs.Resume.{fits_length}

-- ---- the bytes of the last state

-- registers and words fill the whole state
whole_state :
    (s : List ℕ) (r : Registers) (ws : List ℕ)
    → length s ≡ 20 + 4 * length ws
    → sets (sets s 0 (register_bytes r)) 20 (words_bytes ws) ≡ state_bytes r ws
unfolding state_bytes
whole_state s r ws e =
    let place : 20 ≡ 0 + length (register_bytes r) = omega (arith, length_registers r) in
    ap (λ i. sets (sets s 0 (register_bytes r)) i (words_bytes ws)) place
    ∙ sym (sets_append s 0 (register_bytes r) (words_bytes ws))
    ∙ sets_whole s (register_bytes r ++ words_bytes ws) (length_state r ws ∙ sym e)

-- what a run leaves, from the state st of n words
pub left_call :
    (os : List Order) (budget n : ℕ) (r : Registers) (ws out : List ℕ) (k : ℕ) (s : Registers) (vs left st : List ℕ)
    → ws ≡ words_at n 20 st
    → r ≡ registers_of st
    → ran k (machine s vs left) ≡ run os budget (machine r ws out)
    → length st ≡ 20 + 4 * n
    → call (reply s.ending k) (sets (sets st 0 (register_bytes s)) 20 (words_bytes vs)) left
    ≡ ran_call (run os budget (machine (registers_of st) (words_at n 20 st) out))
left_call os budget n r ws out k s vs left st words registers e size =
    let same = (lengths_stay os budget r ws out k s vs left (sym e)).0 ∙ ap length words ∙ length_words n 20 st in
    ap (λ bytes. call (reply s.ending k) bytes left) (whole_state st s vs (omega (arith, size, same)))
    ∙ ap ran_call e
    ∙ ap (λ x. ran_call (run os budget (machine x ws out))) registers
    ∙ ap (λ l. ran_call (run os budget (machine (registers_of st) l out))) words

-- ---- the state that fits

-- a part of the frame has the words of a state that fits
pub part_fits :
    (words n : ℕ) (state output frame : List ℕ)
    → length frame ≡ most_words
    → words ≤ most_words
    → state_fits words n state output ≡ true
    → (length (take words frame) ≤ most_words) × (length state ≡ 20 + 4 * length (take words frame))
part_fits words n state output frame whole h e =
    let size = length-take-le words frame (omega arith) in
    (omega (arith, size), omega (arith, size, fits_length words n state output e))

-- the call of a run in a part of an array
pub fitting_call :
    (words n : ℕ) (os : List Order) (state output frame : List ℕ) (budget : ℕ)
    → words ≤ length frame
    → state_fits words n state output ≡ true
    → ran_call (run os budget (machine (registers_of state) (words_at (length (take words frame)) 20 state) output))
    ≡ object_call words n os state output budget
unfolding object_call
fitting_call words n os state output frame budget h e =
    pick_yes _ _ _ _ e (ap (λ k. ran_call (run os budget (machine (registers_of state) (words_at k 20 state) output))) (length-take-le words frame h))

-- ---- the array that the reader fills

module _ (zeros vs : List ℕ) (clear : (i : ℕ) → get_or zeros i 0 ≡ 0) (room : length vs ≤ length zeros) where
  filled_at : (i : ℕ) → get_or (sets zeros 0 vs) i 0 ≡ get_or vs i 0
  filled_at i =
      by_less
      i
      (length vs)
      (λ h. let e : i ≡ 0 + i = omega arith in
      ap (λ k. get_or (sets zeros 0 vs) k 0) e ∙ get_d_sets vs zeros 0 i 0 h (omega arith))
      (λ h. get_d_sets_behind vs zeros 0 i 0 (omega arith) ∙ clear i ∙ sym (get_or-eq_default vs 0 {n = i} h))

-- it holds the orders, and behind them STOP
module _ (array : List ℕ) (clear : (i : ℕ) → get_or array i 0 ≡ 0) (os : List Order) (small : Narrow os) (room : length os ≤ length array) where
  held_at : (i : ℕ) → get_or (orders_in (sets array 0 (map order_word os))) i Stop ≡ get_or os i Stop
  held_at i =
      order_at (sets array 0 (map order_word os)) i
      ∙ ap order_in (filled_at array (map order_word os) clear (omega (arith, length-map os order_word)) i)
      ∙ sym (order_at (map order_word os) i)
      ∙ ap (λ l. get_or l i Stop) (orders_in_law os small)

  held_call :
      (words n : ℕ) (state output : List ℕ) (budget : ℕ)
      → object_call words n (orders_in (sets array 0 (map order_word os))) state output budget ≡ object_call words n os state output budget
  unfolding object_call
  held_call words n state output budget =
      ap
      (λ x. pick (state_fits words n state output) (ran_call x) (refused_call 26 0 state output))
      (run_same (orders_in (sets array 0 (map order_word os))) os held_at budget (machine (registers_of state) (words_at words 20 state) output))

-- ---- what the reader answers

-- an object that is good
pub record GoodObject (l : List ℕ) (v t n : ℕ) : Type 0 where
  pub orders : List Order
  pub read : reading l ≡ object v t orders
  pub counted : length orders ≡ n

good_reading : (x : Reading) (v t n : ℕ) → good v t n ≡ verdict_of x → (os : List Order) × ((x ≡ object v t os) × (length os ≡ n))
good_reading (object w u os) v t n e = (os, (cc, cc))
good_reading (refused k p) v t n e = let z : ◌≡◌ {A = ℕ} 0 1 = cc in absurd (omega arith)

module _ (l : List ℕ) where
  pub good_object : (v t n : ℕ) → good v t n ≡ verdict_of (reading l) → GoodObject l v t n
  good_object v t n e = let g = good_reading (reading l) v t n e in record { orders = g.0; read = g.1.0; counted = g.1.1 }

  pub refused_call_law :
      (r : ℕ) (state output : List ℕ) (budget : ℕ)
      → Refused (reading l) r
      → call r state output ≡ run_call l state output budget
  unfolding run_call
  refused_call_law r state output budget k = rw (k.same, k.replied) refl

  module _ (v t n : ℕ) (known : GoodObject l v t n) where
    pub limits : Good v t known.orders
    limits = read_good l v t known.orders known.read

    pub few_words : v + t + 2 ≤ most_words
    few_words = omega (arith, limits.variables, limits.temporaries)

    -- the call with the array that the reader has filled
    pub good_call :
        (array state output : List ℕ) (budget : ℕ)
        → ((i : ℕ) → get_or array i 0 ≡ 0)
        → length array ≡ most_orders
        → object_call (v + t + 2) n (orders_in (sets array 0 (map order_word (lines_of l)))) state output budget ≡ run_call l state output budget
    unfolding run_call
    good_call array state output budget clear size =
        rw (known.read, lines_read l v t known.orders known.read, ← known.counted)
        (held_call array clear known.orders (good_narrow v t known.orders limits) (omega (arith, size, limits.few_orders)) (v + t + 2) (length known.orders) state output budget)
