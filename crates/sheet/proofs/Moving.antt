-- The orders of what stands under a number carried out do what it does and lead to the first order of an instruction, or to STOP,
-- with the same count and the same fault; the SKIPs on the way are counted with it.
use Prim.Native.Nat.{ℕ, ◌+◌, ◌/◌}
use mathlib.Core.Path.{◌≡◌}
use mathlib.Core.Bool.{Bool, true, false}
use mathlib.Core.List.{List}
use lib.ListN.{length}
use Rattle.base.specs.Choice.{pick}
use Rattle.order.specs.declared.Order.{Order}
use Rattle.machine.specs.Machine.{Machine}
use Rattle.sheet.specs.Orders.{simple_code}
use Rattle.sheet.specs.Formed.{Leads}
use Rattle.sheet.specs.Worth.{Counted, Store, Next, onward, at, do_simple}
use Rattle.sheet.specs.Condition.{asking, answer}
use Rattle.sheet.specs.Meaning.{Way, Move, go_on, do_move}
use Rattle.sheet.proofs.Reach.{at_once}
use Rattle.sheet.proofs.Simulation.{Comes, lands, comes_then}
use Rattle.sheet.proofs.Doing.{Sound, holding, Gone, gone_on, gone_to, Faulting, does_simple}
use Rattle.sheet.proofs.Trying.{Told, told, asks}
use Rattle.sheet.proofs.Places.{Leading, Placed, deeds, questions}

module _ (os : List Order) (v t n : ℕ) (out : List ℕ) (to : ℕ → ℕ) where
  abbrev Fine : Store → Type 0
  Fine = Sound os v t n out to

  abbrev keeping : Store → ℕ → ℕ → List ℕ → Machine
  keeping = holding os v t n out to

  abbrev Leads_on : ℕ → Way → Type 0
  Leads_on = Leading os v t n to

  -- it is done: the first order of instruction s is next
  pub data Arrived : Next → Machine → Type 0 where
    arrives :
        (s : ℕ) (m : Store) (a : ℕ) (us : List ℕ)
        → Leads n s
        → length us ≡ t
        → Fine m
        → Arrived (at s m) (keeping m a (to s) us)

  module _ (m : Store) (sound : Fine m) where
    abbrev pub Arrives : Machine → Counted Next → Type 0
    Arrives k x = Comes os Arrived (Faulting os v t n out to m sound) k x

    goes_on_law :
        (w : Way) (q b : ℕ) (us : List ℕ) (l : Store)
        → Leads_on q w
        → length us ≡ t
        → Fine l
        → Arrives (keeping l b q us) (go_on w (onward l))
    goes_on_law w q b us l lead long fine =
        lands _ w.skips _ (lead.runs b _ _ _) (arrives w.number l b us lead.lawful long fine)

    pub does_move :
        (x : Move) (a p : ℕ) (ts : List ℕ)
        → length ts ≡ t
        → Placed os v t n to p x
        → Arrives (keeping m a p ts) (do_move (length out / 4) m x)
    unfolding pick
    does_move x a p ts long (deeds u w f room s lead) =
        comes_then os (keeping m a p ts) (do_simple (length out / 4) m u) (go_on w)
        (does_simple os v t n out to m sound u a p ts f long room s)
        on_done
      where
        on_done : (y : Next) (k : Machine) → Gone os v t n out to (p + length (simple_code v to u)) y k → Arrives k (go_on w y)
        on_done y k (gone_on l b us still fine) = goes_on_law w _ b us l lead still fine
        on_done y k (gone_to j l b us there still fine) =
            lands (at j l) 0 _ (at_once os _) (arrives j l b us there still fine)
    does_move x a p ts long (questions c yes_way no_way d f room s yes_leads no_leads) =
        comes_then os (keeping m a p ts) (answer m.words c) _ (asks os v t n out to m sound c p d a ts f room s long) on_answer
      where
        on_answer :
            (yes_so : Bool) (k : Machine)
            → Told os v t n out to m sound (p + asking v c) d yes_so k
            → Arrives k (pick yes_so (go_on yes_way (onward m)) (go_on no_way (onward m)))
        on_answer yes_so k (told true b us still) = goes_on_law yes_way _ b us m yes_leads still sound
        on_answer yes_so k (told false b us still) = goes_on_law no_way _ b us m no_leads still sound
