-- The links from a place on, counted.
use Prim.Native.Nat.{ℕ, ◌+◌, ◌≤◌, ◌<◌}
use mathlib.Core.Path.{◌≡◌, sym, ap, ◌∙◌}
use mathlib.Core.List.{List, [], ◌∷◌, ◌++◌, append_assoc}
use native.Mathlib.Omega.{arith}
use lib.ListN.{length}
use Rattle.order.specs.declared.Order.{Order}
use Rattle.sheet.specs.Orders.{temporary}
use Rattle.std.specs.Prelude.{Option, None}
use Rattle.untranslate_expression.specs.declared.Link.{Link}
use Rattle.untranslate_expression.specs.Internal.{orders_at, link_of, past_link, Linkage, link_code, links_code, LinksGood}
use Rattle.untranslate_expression.specs.Internal.{PastLink, Left, Counting, Counts}
use Rattle.untranslate_expression.proofs.Places.{none_outside}
use Rattle.untranslate_expression.proofs.Links.{seen, link_seen, link_past, link_told}

-- ---- the place behind a link

module _ (os : List ℕ) (at first t : ℕ) where
  abbrev here : Option Link
  here = link_of first t (orders_at at os)

  pub no_link : length os ≤ at → here ≡ None
  no_link h = ap (link_of first t) (none_outside at os h)

-- ---- the loop

module _ (os : List ℕ) (at first t : ℕ) where
  pub count_none : Counting os at first t at 0
  count_none = record {
    few = omega arith;
    inside = λ h. absurd (omega arith);
    left = λ v d ks l start free good ends stands. record { ks = ks; good = good; rest = stands; counted = omega arith };
  }

  module _ (j n : ℕ) (so : Counting os at first t j n) (k : ℕ) (past : PastLink os j first t k) where
    -- a link more
    more_left :
        j < k
        → (v d : ℕ) (l : List Order) (m : ℕ)
        → first ≡ v + 2
        → t ≡ temporary v d
        → link_of first t l ≡ None
        → (ks : List Linkage)
        → LinksGood v ks
        → orders_at j os ≡ links_code v d ks ++ l
        → n + length ks ≡ m
        → Left os k (n + 1) v d l m
    unfolding links_code LinksGood
    more_left h v d l m start free ends [] good rest counted = absurd (past.some h (ap (link_of first t) rest ∙ ends))
    more_left h v d l m start free ends (x ∷ ks) good rest counted =
        let apart = rest ∙ append_assoc (link_code v d x) (links_code v d ks) l in
        let shown = ap (link_of first t) apart ∙ link_seen v d first t start free x good.0 (links_code v d ks ++ l) in
        record {
          ks = ks;
          good = good.1;
          rest =
              past.rest
              ∙ ap (λ q. past_link t q (orders_at j os)) shown
              ∙ ap (past_link t (seen x)) apart
              ∙ link_past v d first t start free x good.0 (links_code v d ks ++ l);
          counted = omega arith;
        }

    pub count_more : j < k → Counting os at first t k (n + 1)
    count_more h = record {
      few = omega (arith, so.few);
      inside = λ g. past.inside h;
      left = λ v d ks l start free good ends stands.
          let a = so.left v d ks l start free good ends stands in
          more_left h v d l (length ks) start free ends a.ks a.good a.rest a.counted;
    }

    -- no link
    none_left :
        k ≤ j
        → (v d : ℕ) (l : List Order) (m : ℕ)
        → first ≡ v + 2
        → t ≡ temporary v d
        → (ks : List Linkage)
        → LinksGood v ks
        → orders_at j os ≡ links_code v d ks ++ l
        → n + length ks ≡ m
        → n ≡ m
    unfolding links_code LinksGood
    none_left h v d l m start free [] good rest counted = omega arith
    none_left h v d l m start free (x ∷ ks) good rest counted =
        let apart = rest ∙ append_assoc (link_code v d x) (links_code v d ks) l in
        let shown = ap (link_of first t) apart ∙ link_seen v d first t start free x good.0 (links_code v d ks ++ l) in
        absurd (link_told v d x None good.0 (sym shown ∙ past.none h))

    pub count_done : k ≤ j → Counts os at first t n
    count_done h = record {
      whole = λ v d ks l start free good ends stands.
          let a = so.left v d ks l start free good ends stands in
          none_left h v d l (length ks) start free a.ks a.good a.rest a.counted;
    }
