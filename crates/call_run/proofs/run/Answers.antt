use Prim.Native.Nat.{ℕ}
use mathlib.Core.Path.{◌≡◌, refl, ◌∙◌}
use native.Mathlib.Omega.{arith}
use lib.ListN.{get_or, replicate}
use Rattle.base.proofs.Lists.{get_d_repeated}
use Rattle.order.specs.Limits.{most_orders}
use Rattle.call.proofs.Refused.{told_refused}
use Rattle.call_run.proofs.Calls.{good_object, few_words, good_call, refused_call_law}
use Rattle.call_run.proofs.run.Goals as goal

clear : (i : ℕ) → ◌≡◌ {A = ℕ} (get_or (replicate most_orders 0) i 0) 0
clear i = get_d_repeated most_orders i 0

pub returns-in-Err : goal.returns-in-Err
returns-in-Err c = rw c.refusal.ensures (refused_call_law _ _ _ _ _ (told_refused _ _ c.in-Err.ensures.replied))

pub overflow_add-words : goal.overflow_add-words
overflow_add-words c =
    let w = few_words _ _ _ _ (good_object _ _ _ _ c.in-Ok.ensures.replied) in
    record { fits = omega (arith, w) }

pub overflow_add-words-in-Ok : goal.overflow_add-words-in-Ok
overflow_add-words-in-Ok c =
    let w = few_words _ _ _ _ (good_object _ _ _ _ c.in-Ok.ensures.replied) in
    record { fits = omega (arith, w) }

pub run_orders-requires : goal.run_orders-requires
run_orders-requires c = few_words _ _ _ _ (good_object _ _ _ _ c.in-Ok.ensures.replied)

pub returns-in-Ok : goal.returns-in-Ok
returns-in-Ok c =
    c.run_orders.ensures
    ∙ rw c.in-Ok.ensures.ordered
    (good_call _ _ _ _ (good_object _ _ _ _ c.in-Ok.ensures.replied) (replicate most_orders 0) _ _ _ clear refl)
