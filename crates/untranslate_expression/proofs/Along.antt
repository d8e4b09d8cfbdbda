-- The fields of an expression, written from its leaf outwards.
use Prim.Native.Nat.{ℕ, suc, ◌+◌, ◌-◌, ◌≤◌, ◌<◌}
use mathlib.Core.Path.{◌≡◌, refl, sym, ap, ap₂, subst, ◌∙◌}
use mathlib.Core.List.{List, [], ◌∷◌, ◌++◌, map, append_assoc}
use native.Mathlib.Omega.{arith}
use lib.ListN.{length, set, length-append, length-map}
use lib.Seq.{sets, length-sets}
use Rattle.base.proofs.Lists.{sets_append}
use Rattle.order.specs.declared.Order.{Order}
use Rattle.order.specs.declared.Order.TheVariants.{Word}
use Rattle.sheet.specs.declared.Field.{Field}
use Rattle.sheet.specs.Fields.{expression_fields}
use Rattle.sheet.specs.Orders.{temporary, code}
use Rattle.sheet_field.specs.Memory.{field_word}
use Rattle.std.specs.Prelude.{Option, Some, None}
use Rattle.untranslate_expression.specs.declared.Link.{Link}
use Rattle.untranslate_expression.specs.declared.Link.TheVariants.{Unary, Plain, Kept}
use Rattle.untranslate_expression.specs.declared.Spot.{Spot}
use Rattle.untranslate_expression.specs.Internal.{orders_at, first_order, behind, use_of, leaf_of, operator_by, operator_of, link_of, past_link}
use Rattle.untranslate_expression.specs.Internal.{Linkage, extend, extend_all, link_code, links_code, link_length, links_length, LinkGood, LinksGood, Chain}
use Rattle.untranslate_expression.specs.Internal.{Past, Counts, Put, LeafPlace, Leaf, Wrote, Reading, At, Linking, Onwards}
use Rattle.untranslate_expression.proofs.Places.{orders_behind, map_append, writes_before}
use Rattle.untranslate_expression.proofs.Links.{seen, length_extend, length_all, links_some, expression_chain, closing, link_seen, link_past, closing_ends, link_told}

-- ---- one link outwards

module _ (os : List ℕ) (first t q : ℕ) (s : Spot) (fs : List ℕ) where
  abbrev here : Option Link
  here = link_of first t (orders_at s.at os)

  module _ (p : ℕ) (base : List ℕ) (v d : ℕ) (e : List Field) (l : List Order) (start : first ≡ v + 2) (free : t ≡ temporary v d) (low : p ≤ q) where
    -- the next link taken off the links that are left
    record Taken : Type 0 where
      x : List Field
      k : Linkage
      ks : List Linkage
      is : here ≡ seen k
      whole : extend_all (extend x k) ks ≡ e
      this : LinkGood v k
      good : LinksGood v ks
      rest : orders_at s.at os ≡ link_code v d k ++ (links_code v d ks ++ l)
      behind_it : past_link t (seen k) (orders_at s.at os) ≡ links_code v d ks ++ l
      few : t + (length os - s.at) ≤ 4294967295
      room : p + length x + (1 + link_length k + links_length ks) ≤ length base
      counted : q ≡ p + length ks
      place : s.n ≡ q + 1 + length (map field_word x)
      written : fs ≡ sets base (q + 1) (map field_word x)

    take_by :
        (x : List Field) (ks : List Linkage)
        → extend_all x ks ≡ e
        → LinksGood v ks
        → orders_at s.at os ≡ links_code v d ks ++ l
        → t + (length os - s.at) ≤ 4294967295
        → p + length x + links_length ks ≤ length base
        → q + 1 ≡ p + length ks
        → s.n ≡ q + 1 + length x
        → fs ≡ sets base (q + 1) (map field_word x)
        → Taken
    unfolding links_code LinksGood extend_all links_length
    take_by x [] whole good rest few room counted place written = absurd (omega arith)
    take_by x (k ∷ ks) whole good rest few room counted place written =
        let apart = rest ∙ append_assoc (link_code v d k) (links_code v d ks) l in
        record {
          x = x;
          k = k;
          ks = ks;
          is = ap (link_of first t) apart ∙ link_seen v d first t start free k good.0 (links_code v d ks ++ l);
          whole = whole;
          this = good.0;
          good = good.1;
          rest = apart;
          behind_it = ap (past_link t (seen k)) apart ∙ link_past v d first t start free k good.0 (links_code v d ks ++ l);
          few = few;
          room = room;
          counted = omega arith;
          place = place ∙ ap (λ n. q + 1 + n) (sym (length-map x field_word));
          written = written;
        }

    taken : At os t p base v d e l (q + 1) s fs → Taken
    taken a = take_by a.x a.ks a.whole a.good a.rest a.few a.room a.counted a.place a.written

    -- what is left behind it, where the fields f ∷ ws of the longer expression stand
    advance :
        (a : Taken) (f : Field) (ws : List ℕ)
        → map field_word (extend a.x a.k) ≡ field_word f ∷ ws
        → (r : Spot) (after : List ℕ)
        → s.at ≤ r.at
        → orders_at r.at os ≡ links_code v d a.ks ++ l
        → r.n ≡ q + suc (length ws)
        → after ≡ sets base q (field_word f ∷ ws)
        → At os t p base v d e l q r after
    advance a f ws adds r after on rest place written = record {
      x = extend a.x a.k;
      ks = a.ks;
      whole = a.whole;
      good = a.good;
      rest = rest;
      few = omega (arith, a.few);
      room = omega (arith, a.room, length_extend a.x a.k);
      counted = a.counted;
      place = place ∙ ap (λ n. q + n) (sym (ap length adds) ∙ length-map (extend a.x a.k) field_word);
      written = written ∙ ap (sets base q) (sym adds);
    }

    -- q lies inside, with room behind what is written
    fits : (a : Taken) → q + 1 + length (map field_word a.x) + link_length a.k ≤ length base
    fits a = omega (arith, a.room, a.counted, links_some a.ks, length-map a.x field_word)

    same_room : (a : Taken) → length fs ≡ length base
    same_room a = ap length a.written ∙ length-sets base (q + 1) (map field_word a.x)

  -- ---- an operator without a right operand

  pub link_unary :
      (f : Field)
      → Some (Unary f) ≡ here
      → (u : ℕ) (after : List ℕ)
      → Put f q fs u after
      → Linking os first t q s fs (record { at = s.at + 1; n = s.n }) after
  link_unary f known u after put = record {
    on = omega arith;
    safe = record { kept = put.safe.kept; inside = λ h. h };
    onwards = λ p base v d e l start free low at_s.
        let a = taken p base v d e l start free low at_s in
        let shows = sym (known ∙ a.is) in
        let k = link_told v d a.k (Some (Unary f)) a.this shows in
        let ws = map field_word a.x in
        let room = fits p base v d e l start free low a in
        let same = same_room p base v d e l start free low a in
        let w = put.writes (omega (arith, room, same)) in
        advance p base v d e l start free low a f ws (ap (map field_word) (k.adds a.x)) (record { at = s.at + 1; n = s.n }) after
        (omega arith)
        (orders_behind s.at os ∙ ap (λ z. past_link t z (orders_at s.at os)) (sym shows) ∙ a.behind_it)
        (a.place ∙ omega arith)
        (w.fields ∙ ap (λ m. set m q (field_word f)) a.written ∙ writes_before ws base q (field_word f));
  }

  -- ---- one with a plain right operand

  pub link_plain :
      (f g : Field)
      → Some (Plain f g) ≡ here
      → (u : ℕ) (mid : List ℕ)
      → Put f q fs u mid
      → (r : ℕ) (after : List ℕ)
      → Put g s.n mid r after
      → Linking os first t q s fs (record { at = s.at + 1; n = r }) after
  link_plain f g known u mid one r after two = record {
    on = omega arith;
    safe = record { kept = two.safe.kept ∙ one.safe.kept; inside = λ h. omega (arith, two.safe.inside (omega (arith, one.safe.kept)), one.safe.kept) };
    onwards = λ p base v d e l start free low at_s.
        let a = taken p base v d e l start free low at_s in
        let shows = sym (known ∙ a.is) in
        let k = link_told v d a.k (Some (Plain f g)) a.this shows in
        let ws = map field_word a.x in
        let more = length-append ws (field_word g ∷ []) in
        let room = fits p base v d e l start free low a in
        let same = same_room p base v d e l start free low a in
        let w = one.writes (omega (arith, room, same)) in
        let x = two.writes (omega (arith, room, same, k.many, a.place, one.safe.kept)) in
        let first_two = w.fields ∙ ap (λ m. set m q (field_word f)) a.written ∙ writes_before ws base q (field_word f) in
        let behind_them : s.n ≡ q + length (field_word f ∷ ws) = a.place ∙ omega arith in
        advance p base v d e l start free low a f (ws ++ (field_word g ∷ []))
        (ap (map field_word) (k.adds a.x) ∙ ap (λ m. field_word f ∷ m) (map_append field_word a.x (g ∷ [])))
        (record { at = s.at + 1; n = r })
        after
        (omega arith)
        (orders_behind s.at os ∙ ap (λ z. past_link t z (orders_at s.at os)) (sym shows) ∙ a.behind_it)
        (omega (arith, x.place, a.place, more))
        (x.fields ∙ ap₂ (λ m i. set m i (field_word g)) first_two behind_them ∙ sym (sets_append base q (field_word f ∷ ws) (field_word g ∷ [])));
  }

  -- ---- one whose right operand is worked out

  two_behind : (c : ℕ) (b r : ℕ) → Past os b r → Past os r c → orders_at c os ≡ behind (behind (orders_at b os))
  two_behind c b r x y = y.rest ∙ ap behind x.rest

  pub link_kept :
      Some Kept ≡ here
      → s.at < length os
      → (kept : ℕ)
      → (t < 4294967295 → kept ≡ t + 1)
      → (r : Spot) (mid : List ℕ)
      → Reading os (s.at + 1) first kept fs s.n r mid
      → (b c g : ℕ)
      → Past os r.at b
      → Past os b c
      → Past os c g
      → (f : Field)
      → f ≡ operator_of (first_order (orders_at c os))
      → (u : ℕ) (after : List ℕ)
      → Put f q mid u after
      → Linking os first t q s fs (record { at = g; n = r.n }) after
  link_kept known inside kept next r mid inner b c g past_store past_load_law past_last f its u after put = record {
    on = omega (arith, inner.on, past_store.on, past_load_law.on, past_last.on);
    safe = record { kept = put.safe.kept ∙ inner.safe.kept; inside = inner.safe.inside };
    onwards = λ p base v d e l start free low at_s.
        let a = taken p base v d e l start free low at_s in
        let shows = sym (known ∙ a.is) in
        let k = link_told v d a.k (Some Kept) a.this shows in
        let right = expression_fields k.right in
        let ws = map field_word a.x in
        let us = map field_word right in
        let m = links_code v d a.ks ++ l in
        let last = closing k.does v d in
        let field = operator_by (use_of k.does) in
        let more = length-append ws us in
        let many = length-map right field_word in
        let room = fits p base v d e l start free low a in
        let same = same_room p base v d e l start free low a in
        let one = next (omega (arith, a.few)) in
        let w = inner.whole v (suc d) (code v (suc d) k.right) right (last ++ m) start (omega arith) (expression_chain v (suc d) k.right k.good)
        (orders_behind s.at os ∙ ap behind (a.rest ∙ ap (λ n. n ++ m) k.codes) ∙ append_assoc (code v (suc d) k.right) last m)
        (rw one (closing_ends v d first t start free (Word k.does (temporary v (suc d)) ∷ m)))
        (omega (arith, a.few, one))
        (omega (arith, room, same, k.many, a.place)) in
        let third = two_behind c r.at b past_store past_load_law ∙ ap (λ n. behind (behind n)) w.rest in
        let op = its ∙ ap (λ n. operator_of (first_order n)) third in
        let x = put.writes (omega (arith, room, same, inner.safe.kept)) in
        let written : mid ≡ sets base (q + 1) (ws ++ us) =
        w.writes.fields ∙ ap₂ (λ n i. sets n i us) a.written a.place ∙ sym (sets_append base (q + 1) ws us) in
        advance p base v d e l start free low a field (ws ++ us)
        (ap (map field_word) (k.adds a.x) ∙ ap (λ n. field_word field ∷ n) (map_append field_word a.x right))
        (record { at = g; n = r.n })
        after
        (omega (arith, inner.on, past_store.on, past_load_law.on, past_last.on))
        (past_last.rest ∙ ap behind third)
        (omega (arith, w.writes.place, a.place, more, many))
        (x.fields ∙ ap₂ (λ n h. set n q (field_word h)) written op ∙ writes_before (ws ++ us) base q (field_word field));
  }

  -- ---- no link: none was left

  pub link_end : here ≡ None → Linking os first t q s fs s fs
  link_end none = record {
    on = omega arith;
    safe = record { kept = refl; inside = λ h. h };
    onwards = λ p base v d e l start free low at_s.
        let a = taken p base v d e l start free low at_s in
        absurd (link_told v d a.k None a.this (sym a.is ∙ none));
  }

-- ---- the start and the end

ended :
    (os : List ℕ) (p : ℕ) (base : List ℕ) (v d : ℕ) (e : List Field) (l : List Order) (s : Spot) (fs : List ℕ)
    (x : List Field) (ks : List Linkage)
    → extend_all x ks ≡ e
    → orders_at s.at os ≡ links_code v d ks ++ l
    → p ≡ p + length ks
    → s.n ≡ p + length x
    → fs ≡ sets base p (map field_word x)
    → Wrote os e l p base s fs
unfolding extend_all links_code
ended os p base v d e l s fs x [] whole rest counted place written =
    record { rest = rest; writes = record { place = rw whole at place; fields = rw whole at written } }
ended os p base v d e l s fs x (k ∷ ks) whole rest counted place written = absurd (omega arith)

module _ (os : List ℕ) (at first t : ℕ) (fs : List ℕ) (p j links q₀ : ℕ) (past : Past os at j) (count : Counts os j first t links)
    (there : LeafPlace (length fs) p links q₀) (s₀ : Spot) (m₀ : List ℕ) (leaf : Leaf os at fs q₀ s₀ m₀) where
  begun :
      (v d : ℕ) (c : List Order) (e : List Field) (l : List Order)
      → first ≡ v + 2
      → t ≡ temporary v d
      → Chain v d c e
      → orders_at at os ≡ c ++ l
      → link_of first t l ≡ None
      → t + (length os - at) ≤ 4294967295
      → p + length e ≤ length fs
      → At os t p fs v d e l q₀ s₀ m₀
  begun v d c e l start free chain stands none few room =
      let all = ap length chain.fields in
      let sum = length_all chain.links (leaf_of chain.leaf ∷ []) in
      let some = links_some chain.links in
      let begins = stands ∙ ap (λ k. k ++ l) chain.codes in
      let behind_leaf = past.rest ∙ ap behind begins in
      let counted = count.whole v d chain.links l start free chain.good none behind_leaf in
      let here : q₀ ≡ p + length chain.links = there.place (omega (arith, all, sum, some, counted)) ∙ ap (λ n. p + n) counted in
      let w = leaf.put.writes (omega (arith, here, all, sum, some)) in
      record {
        x = leaf_of chain.leaf ∷ [];
        ks = chain.links;
        whole = chain.fields;
        good = chain.good;
        rest = leaf.past.rest ∙ ap behind begins;
        few = omega (arith, leaf.past.on);
        room = omega (arith, all, sum);
        counted = here;
        place = w.place;
        written = w.fields ∙ ap (λ k. set fs q₀ (field_word (leaf_of (first_order k)))) begins;
      }

  pub read_done :
      (s : Spot) (after : List ℕ) (q : ℕ)
      → q ≤ p
      → Onwards os first t p q₀ s₀ m₀ q s after
      → Reading os at first t fs p s after
  read_done s after q h on = record {
    on = omega (arith, leaf.past.on, on.far);
    safe = record {
      kept = on.safe.kept ∙ leaf.put.safe.kept;
      inside = λ g. omega (arith, on.safe.inside (omega (arith, leaf.put.safe.inside (there.inside g), leaf.put.safe.kept)), leaf.put.safe.kept);
    };
    whole = λ v d c e l start free chain stands none few room.
        let at_end : q ≡ p = omega (arith, on.low) in
        let a = subst (λ n. At os t p fs v d e l n s after) at_end (on.onwards fs v d e l start free (begun v d c e l start free chain stands none few room)) in
        ended os p fs v d e l s after a.x a.ks a.whole a.rest a.counted a.place a.written;
  }
