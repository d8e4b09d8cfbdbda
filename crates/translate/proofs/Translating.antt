-- From the orders that are put to the translation.
use Prim.Native.Nat.{ℕ, suc, ◌+◌, ◌-◌, ◌≤◌, ◌<◌}
use mathlib.Core.Path.{◌≡◌, refl, sym, ap, ap₂, ◌∙◌}
use mathlib.Core.Bool.{Bool, true, false}
use Rattle.std.specs.Prelude.{None, Some}
use mathlib.Core.List.{List, [], ◌∷◌, ◌++◌, map, append-nil}
use native.Mathlib.Omega.{arith}
use native.Mathlib.Nat.{zero-add}
use lib.ListN.{length, get_or, set, take, drop, length-append, length-map, length-set, take-append-drop}
use lib.Seq.{sets, sets-eq, length-take-le}
use Rattle.base.specs.Choice.{pick}
use Rattle.base.proofs.Cases.{by_less}
use Rattle.base.proofs.Lists.{take_sets, drop_sets, sets_more}
use Rattle.order.specs.declared.Operation.{Operation}
use Rattle.order.specs.declared.Operation.TheVariants.{Load}
use Rattle.order.specs.declared.Order.{Order}
use Rattle.order.specs.declared.Order.TheVariants.{Word, Number, Store, Neg, Not, Jump, Skip, Branch, Cond, Send, Stop}
use Rattle.order.specs.Order.{operand}
use Rattle.order.specs.Limits.{most_variables, most_orders}
use Rattle.order.specs.Memory.{order_word, order_in, orders_in}
use Rattle.order.proofs.Numbers.{order_in_law}
use Rattle.order.proofs.Arrays.{Narrow, none, more, orders_in_law}
use Rattle.sheet.specs.declared.Joining.TheVariants.{And, Or}
use Rattle.sheet.specs.Sheet.{Expression, word, constant, negated, inverted, binary, Operand, in_word, itself, worked_out, operand as operand_of}
use Rattle.sheet.specs.Sheet.{Simple, set as setting, send, goto, Condition, compares, joins, Part, end, plain, when, either, count, sheet}
use Rattle.sheet.specs.Orders.{temporary, joined, code, simple_code, simple_size, comparison_code}
use Rattle.sheet.specs.Condition.{comparisons, leaving, trying, try_code, asking, asking_code}
use Rattle.sheet.specs.Translation.{size, starts, first_order, part_code, translation, temporaries_of}
use Rattle.sheet.specs.Within.{PartFormed}
use Rattle.sheet.specs.Memory.{part_fields}
use Rattle.sheet.specs.Temporaries.{largest_stored}
use Rattle.sheet.specs.Beginnings.{beginnings}
use Rattle.sheet.proofs.Sizes.{code_length, count_size}
use Rattle.sheet.proofs.Starts.{first_below}
use Rattle.sheet.proofs.Beginnings.{code_begins}
use Rattle.sheet.proofs.Temporaries.{temporaries_stored}
use Rattle.sheet_field.specs.Memory.{field_in, fields_at, most_fields}
use Rattle.translate_expression.specs.declared.Spot.{Spot}
use Rattle.translate_expression.specs.Internal.{Done}
use Rattle.translate_expression.proofs.Turns.{map_append}
use Rattle.translate_part.specs.Internal.{unled, Parting}
use Rattle.translate.specs.Answers.{Translates}
use Rattle.translate.specs.declared.Translated.{Translated}
use Rattle.translate.specs.Internal.{noted, table, led_by, led_word, led_all, Finishes}
use Rattle.translate.proofs.Tables.{table_holds, begun_few}
use Rattle.translate.proofs.Narrowness.{code_narrow}

-- ---- jumps led, order by order

abbrev pub led_to : (ℕ → ℕ) → Order → Order
led_to to (Word f w) = Word f w
led_to to (Number f n) = Number f n
led_to to (Store w) = Store w
led_to to Neg = Neg
led_to to Not = Not
led_to to (Jump s) = Jump (to s)
led_to to (Skip a) = Skip a
led_to to (Branch r a) = Branch r a
led_to to (Cond n) = Cond n
led_to to Send = Send
led_to to Stop = Stop

module _ (to : ℕ → ℕ) where
  led_append : (xs ys : List Order) → map (led_to to) (xs ++ ys) ≡ map (led_to to) xs ++ map (led_to to) ys
  led_append [] ys = refl
  led_append (x ∷ xs) ys = ap (λ l. led_to to x ∷ l) (led_append xs ys)

  led_joined : (f : Operation) (v d : ℕ) (q : Operand) (l r : List Order) → map (led_to to) l ≡ l → map (led_to to) r ≡ r
      → map (led_to to) (joined f v d q l r) ≡ joined f v d q l r
  led_joined f v d (in_word w) l r a b = led_append l _ ∙ ap (λ k. k ++ Word f w ∷ []) a
  led_joined f v d (itself n) l r a b = led_append l _ ∙ ap (λ k. k ++ Number f n ∷ []) a
  led_joined f v d worked_out l r a b =
      led_append (l ++ Store (temporary v d) ∷ r) (Store (temporary v (suc d)) ∷ Word Load (temporary v d) ∷ Word f (temporary v (suc d)) ∷ [])
      ∙ ap (λ k. k ++ Store (temporary v (suc d)) ∷ Word Load (temporary v d) ∷ Word f (temporary v (suc d)) ∷ [])
      (led_append l (Store (temporary v d) ∷ r) ∙ ap₂ (λ k m. k ++ Store (temporary v d) ∷ m) a b)

  -- expressions and conditions have no jumps
  led_code : (v d : ℕ) (e : Expression) → map (led_to to) (code v d e) ≡ code v d e
  unfolding code
  led_code v d (word w) = refl
  led_code v d (constant n) = refl
  led_code v d (negated e) = led_append (code v d e) _ ∙ ap (λ k. k ++ Neg ∷ []) (led_code v d e)
  led_code v d (inverted e) = led_append (code v d e) _ ∙ ap (λ k. k ++ Not ∷ []) (led_code v d e)
  led_code v d (binary o l r) = led_joined _ v d (operand_of r) (code v d l) (code v (suc d) r) (led_code v d l) (led_code v (suc d) r)

  led_try : (v p : ℕ) (g : Bool) (y n : ℕ) (c : Condition) → map (led_to to) (try_code v p g y n c) ≡ try_code v p g y n c
  unfolding try_code
  led_try v p g y n (compares r a b) =
      led_append (comparison_code v a b) _
      ∙ ap (λ k. k ++ Branch (leaving g r) (pick g n y) ∷ []) (led_joined _ v 0 (operand_of b) (code v 0 a) (code v 1 b) (led_code v 0 a) (led_code v 1 b))
  led_try v p g y n (joins And a b) =
      let q = p + trying v a in
      led_append (try_code v p true q n a) _ ∙ ap₂ ◌++◌ (led_try v p true q n a) (led_try v q g y n b)
  led_try v p g y n (joins Or a b) =
      let q = p + trying v a in
      led_append (try_code v p false y q a) _ ∙ ap₂ ◌++◌ (led_try v p false y q a) (led_try v q g y n b)

  led_asking : (v p : ℕ) (c : Condition) (d : ℕ) → map (led_to to) (asking_code v p c d) ≡ asking_code v p c d
  unfolding asking_code
  led_asking v p (compares r a b) d = led_try v p true _ d (compares r a b)
  led_asking v p (joins w a b) d = ap (λ k. Cond (comparisons (joins w a b)) ∷ k) (led_try v (p + 1) true _ d (joins w a b))

  led_simple : (v : ℕ) (u : Simple) → map (led_to to) (simple_code v (λ s. s) u) ≡ simple_code v to u
  led_simple v (setting w e) = led_append (code v 0 e) _ ∙ ap (λ k. k ++ Store w ∷ []) (led_code v 0 e)
  led_simple v (send e) = led_append (code v 0 e) _ ∙ ap (λ k. k ++ Send ∷ []) (led_code v 0 e)
  led_simple v (goto s) = refl

  led_part : (v p : ℕ) (x : Part) → map (led_to to) (unled v p x) ≡ part_code v to p x
  unfolding part_code
  led_part v p end = refl
  led_part v p (plain u l) = led_append (simple_code v (λ s. s) u) _ ∙ ap₂ ◌++◌ (led_simple v u) (led_part v (p + simple_size v u) l)
  led_part v p (when c x l) =
      led_append (asking_code v p c _) _
      ∙ ap₂ ◌++◌ (led_asking v p c _) (led_append (unled v (p + asking v c) x) _ ∙ ap₂ ◌++◌ (led_part v (p + asking v c) x) (led_part v (p + asking v c + size v x) l))
  led_part v p (either c x y l) =
      led_append (asking_code v p c _) _
      ∙ ap₂ ◌++◌ (led_asking v p c _)
      (led_append (unled v (p + asking v c) x) _
      ∙ ap₂ (λ k m. k ++ Skip (p + asking v c + size v x + 1 + size v y) ∷ m) (led_part v (p + asking v c) x)
      (led_append (unled v (p + asking v c + size v x + 1) y) _
      ∙ ap₂ ◌++◌ (led_part v (p + asking v c + size v x + 1) y) (led_part v (p + asking v c + size v x + 1 + size v y) l)))

-- ---- the same in memory

led_word_law : (firsts : List ℕ) (last : ℕ) (o : Order) → operand o < 4294967296
    → led_word firsts last (order_word o) ≡ order_word (led_to (λ s. get_or firsts (s - 1) last) o)
led_word_law firsts last o h = ap (λ q. led_by firsts last (order_word o) q) (order_in_law o h) ∙ by o
  where
    by : (o : Order) → led_by firsts last (order_word o) o ≡ order_word (led_to (λ s. get_or firsts (s - 1) last) o)
    by (Word f w) = refl
    by (Number f n) = refl
    by (Store w) = refl
    by Neg = refl
    by Not = refl
    by (Jump s) = refl
    by (Skip a) = refl
    by (Branch r a) = refl
    by (Cond n) = refl
    by Send = refl
    by Stop = refl

led_words : (firsts : List ℕ) (last : ℕ) (os : List Order) → Narrow os
    → map (led_word firsts last) (map order_word os) ≡ map order_word (map (led_to (λ s. get_or firsts (s - 1) last)) os)
led_words firsts last _ none = refl
led_words firsts last _ (more {o} {os} h hs) = ap₂ ◌∷◌ (led_word_law firsts last o h) (led_words firsts last os hs)

-- ---- the table that is filled

pub table_take : (v : ℕ) (ws l : List ℕ) (n : ℕ) (firsts : List ℕ) → noted n firsts ≡ table v ws l → length ws ≤ length l
    → take n firsts ≡ beginnings v true 0 0 (orders_in ws)
table_take v ws l n firsts e room =
    let bs = beginnings v true 0 0 (orders_in ws) in
    let both : noted n firsts ≡ noted (length bs) (sets l 0 bs) = e ∙ table_holds v ws l in
    let count : n ≡ length bs = cc in
    let held : firsts ≡ sets l 0 bs = cc in
    let few = begun_few v true 0 0 (orders_in ws) in
    ap₂ take (count ∙ sym (zero-add (length bs))) held
    ∙ take_sets l 0 bs (omega (arith, few, length-map ws order_in, room))

-- ---- the whole

module _ (v : ℕ) (x : Part) (formed : PartFormed v (count x) x) (few : v ≤ most_variables) (small : length (part_fields x) ≤ most_fields)
    (room : length (translation (sheet v x)) ≤ most_orders) where
  sized : size v x + 1 ≤ most_orders
  sized = omega (arith, room, length-append (part_code v (first_order v x) 0 x) (Stop ∷ []), code_length v (first_order v x) 0 x)

  pub put_narrow : Narrow (unled v 0 x ++ Stop ∷ [])
  put_narrow = code_narrow v (λ s. s) x formed (λ s h. omega (arith, h.1, count_size v x)) (omega arith) (omega (arith, sized))

  pub translated_narrow : Narrow (translation (sheet v x))
  translated_narrow = code_narrow v (first_order v x) x formed (λ s h. omega (arith, first_below v x s h)) (omega arith) (omega (arith, sized))

  pub put_length : length (unled v 0 x ++ Stop ∷ []) ≡ size v x + 1
  put_length = length-append (unled v 0 x) (Stop ∷ []) ∙ omega (arith, code_length v (λ s. s) 0 x)

  -- the orders that are put, led
  pub all_led : led_all v (map order_word (unled v 0 x ++ Stop ∷ [])) ≡ map order_word (translation (sheet v x))
  all_led =
      ap₂ (λ firsts last. map (led_word firsts last) (map order_word (unled v 0 x ++ Stop ∷ [])))
      (ap (beginnings v true 0 0) (orders_in_law (unled v 0 x ++ Stop ∷ []) put_narrow) ∙ code_begins v (count x) (λ s. s) x formed)
      (omega (arith, length-map (unled v 0 x ++ Stop ∷ []) order_word, put_length))
      ∙ led_words (starts v 0 x) (size v x) (unled v 0 x ++ Stop ∷ []) put_narrow
      ∙ ap (map order_word) (led_append (first_order v x) (unled v 0 x) (Stop ∷ []) ∙ ap (λ k. k ++ Stop ∷ []) (led_part (first_order v x) v 0 x))

  pub stored : largest_stored v (orders_in (map order_word (translation (sheet v x)))) ≡ temporaries_of x
  stored = ap (largest_stored v) (orders_in_law (translation (sheet v x)) translated_narrow) ∙ temporaries_stored (sheet v x) formed

-- ---- the function

abbrev told_of : ℕ → ℕ → Translated
told_of n t = record { temporaries = t; orders = n }

pub finishes :
    (v : ℕ) (ws l : List ℕ) (n : ℕ) (firsts : List ℕ) (last : ℕ) (after : List ℕ) (t : ℕ)
    → noted n firsts ≡ table v ws l
    → length ws ≤ length l
    → last ≡ length ws - 1
    → after ≡ map (led_word (take n firsts) last) ws
    → t ≡ largest_stored v (orders_in after)
    → Finishes v ws (record { temporaries = t; orders = length ws }) after
finishes v ws l n firsts last after t e room is led most = record {
  led = led ∙ ap₂ (λ k d. map (led_word k d) ws) (table_take v ws l n firsts e room) is;
  told = ap (told_of (length ws)) most;
}

front_room : (ws : List ℕ) (k : ℕ) (out : List ℕ) → length ws ≡ k → k ≤ length out → 0 + length ws ≤ length out
front_room ws k out e h = omega (arith, e)

drop_written : (out ws : List ℕ) (k : ℕ) → length ws ≡ k → k ≤ length out → drop k (sets out 0 ws) ≡ drop k out
drop_written out ws k e h =
    ap (λ n. drop n (sets out 0 ws)) (sym e ∙ sym (zero-add (length ws)))
    ∙ drop_sets out 0 ws (front_room ws k out e h)
    ∙ ap (λ n. drop n out) (zero-add (length ws) ∙ e)

sets_front : (out ws : List ℕ) (k : ℕ) → length ws ≡ k → k ≤ length out → sets out 0 ws ≡ ws ++ drop k out
sets_front out ws k e h = sets-eq ws out 0 (front_room ws k out e h) ∙ ap (λ n. ws ++ drop n out) (zero-add (length ws) ∙ e)

module _ (fs : List ℕ) (v : ℕ) (out : List ℕ) (s : Spot) (m : List ℕ) (put : Parting fs 0 (v + 2) 0 out s m) (kept : length m ≡ length out) where
  done :
      (x : Part)
      → fields_at 0 fs ≡ part_fields x
      → v ≤ most_variables
      → length fs ≤ most_fields
      → length out ≡ most_orders
      → Done fs [] (unled v 0 x) 0 out s m
  done x h few small long =
      put.whole v x [] (omega arith) (h ∙ sym (append-nil (part_fields x))) refl (record { fields = omega arith; orders = omega arith })

  counted : (x : Part) → length (translation (sheet v x)) ≡ size v x + 1
  counted x = length-append (part_code v (first_order v x) 0 x) (Stop ∷ []) ∙ omega (arith, code_length v (first_order v x) 0 x)

  pub over_room : length m ≤ s.i → Translates fs v out None m
  over_room full = record {
    kept = kept;
    of = λ x formed h few small long. record {
      whole = λ room.
          let p = (done x h few small long).put.place (omega (arith, room, counted x, code_length v (λ k. k) 0 x)) in
          absurd (omega (arith, p, room, kept, counted x, code_length v (λ k. k) 0 x));
      over = λ g. refl;
    };
  }

  module _ (within : s.i < length m) (m₂ : List ℕ) (stopped : m₂ ≡ set m s.i (order_word Stop)) (r : Translated) (led : List ℕ)
      (finished : Finishes v (take (s.i + 1) m₂) r led) where
    inside : s.i < length out
    inside = omega (arith, kept)

    module _ (x : Part) (formed : PartFormed v (count x) x) (h : fields_at 0 fs ≡ part_fields x) (few : v ≤ most_variables) (small : length fs ≤ most_fields)
        (long : length out ≡ most_orders) where
      orders_fit : size v x < most_orders
      orders_fit =
          by_less (size v x) most_orders (λ l. l)
          (λ g. let p = (done x h few small long).put.full (omega arith) (omega (arith, long, code_length v (λ k. k) 0 x)) in absurd (omega (arith, p, inside)))

      place : s.i ≡ 0 + length (map order_word (unled v 0 x))
      place =
          (done x h few small long).put.place (omega (arith, orders_fit, code_length v (λ k. k) 0 x, long))
          ∙ ap (λ k. 0 + k) (sym (length-map (unled v 0 x) order_word))

      abbrev words : List ℕ
      words = map order_word (unled v 0 x ++ Stop ∷ [])

      words_more : words ≡ map order_word (unled v 0 x) ++ order_word Stop ∷ []
      words_more = map_append order_word (unled v 0 x) (Stop ∷ [])

      words_length : length words ≡ s.i + 1
      words_length = ap length words_more ∙ length-append (map order_word (unled v 0 x)) (order_word Stop ∷ []) ∙ omega (arith, place)

      written : m₂ ≡ sets out 0 words
      written =
          stopped
          ∙ ap₂ (λ l k. set l k (order_word Stop)) ((done x h few small long).put.orders (omega (arith, orders_fit, code_length v (λ k. k) 0 x, long))) place
          ∙ sets_more out 0 (map order_word (unled v 0 x)) (order_word Stop)
          ∙ ap (sets out 0) (sym words_more)

      fields_few : length (part_fields x) ≤ most_fields
      fields_few = omega (arith, small, ap length h, length-map fs field_in)

      room : length (translation (sheet v x)) ≤ most_orders
      room = omega (arith, orders_fit, counted x)

      front : take (s.i + 1) m₂ ≡ words
      front =
          ap₂ take (sym words_length ∙ sym (zero-add (length words))) written
          ∙ take_sets out 0 words (omega (arith, words_length, inside))

      led_is : led ≡ map order_word (translation (sheet v x))
      led_is = finished.led ∙ ap (led_all v) front ∙ all_led v x formed few fields_few room

      told_is : Some r ≡ Some (record { temporaries = temporaries_of x; orders = length (translation (sheet v x)) })
      told_is =
          ap Some finished.told
          ∙ ap₂ (λ t n. Some (told_of n t)) (ap (λ k. largest_stored v (orders_in k)) led_is ∙ stored v x formed few fields_few room)
          (ap length front ∙ words_length ∙ omega (arith, place, counted x, code_length v (λ k. k) 0 x, length-map (unled v 0 x) order_word))

      all_is : led ++ drop (s.i + 1) m₂ ≡ sets out 0 (map order_word (translation (sheet v x)))
      all_is =
          let n : length (map order_word (translation (sheet v x))) ≡ s.i + 1 = length-map (translation (sheet v x)) order_word
          ∙ omega (arith, place, counted x, code_length v (λ k. k) 0 x, length-map (unled v 0 x) order_word) in
          ap₂ ◌++◌ led_is
          (ap (drop (s.i + 1)) written ∙ drop_written out words (s.i + 1) words_length (omega (arith, inside)))
          ∙ sym (sets_front out (map order_word (translation (sheet v x))) (s.i + 1) n (omega (arith, inside)))

    all_kept : length (led ++ drop (s.i + 1) m₂) ≡ length out
    all_kept =
        length-append led (drop (s.i + 1) m₂)
        ∙ ap (λ k. k + length (drop (s.i + 1) m₂)) (ap length finished.led ∙ length-map (take (s.i + 1) m₂) _)
        ∙ sym (length-append (take (s.i + 1) m₂) (drop (s.i + 1) m₂))
        ∙ ap length (take-append-drop (s.i + 1) m₂)
        ∙ ap length stopped
        ∙ length-set m s.i (order_word Stop)
        ∙ kept

    pub whole_put : Translates fs v out (Some r) (led ++ drop (s.i + 1) m₂)
    whole_put = record {
      kept = all_kept;
      of = λ x formed h few small long. record {
        whole = λ g. (told_is x formed h few small long, all_is x formed h few small long);
        over = λ g. absurd (g (room x formed h few small long));
      };
    }

pub front_some : (k : ℕ) (l : List ℕ) → k < length l → 1 ≤ length (take (k + 1) l)
front_some k l h = omega (arith, length-take-le (k + 1) l (omega arith))

pub front_few : (k : ℕ) (l : List ℕ) → k < length l → length l ≡ most_orders → length (take (k + 1) l) ≤ most_orders
front_few k l h e = omega (arith, length-take-le (k + 1) l (omega arith))
