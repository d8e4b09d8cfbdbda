-- The orders of an instruction that is no IF do what it does, with the same count and the same fault.
use Prim.Native.Nat.{ℕ, ◌+◌, ◌*◌, ◌/◌, ◌<◌, ◌≤◌}
use mathlib.Core.Path.{◌≡◌, refl, sym, ap, ◌∙◌}
use mathlib.Core.Bool.{true, false}
use mathlib.Core.List.{List, [], ◌∷◌, ◌++◌, append-nil, append_assoc}
use native.Mathlib.Omega.{arith}
use native.Mathlib.Nat.{zero-add}
use lib.Dec.{ltb}
use lib.ListN.{length, get_or, set as put, length-set, length-append, get_or-eq_default}
use lib.Seq.{sets, length-sets, set-append_left, get_or-set_same, get_or-set_other}
use Rattle.base.specs.Choice.{pick}
use Rattle.base.proofs.Cases.{by_test, by_less, by_equal}
use Rattle.base.proofs.Lists.{sets_append}
use Rattle.order.specs.declared.Order.{Order}
use Rattle.order.specs.declared.Order.TheVariants.{Store as Str, Jump, Send, Stop}
use Rattle.machine.specs.Machine.{Machine, done, failed, effect, word_bytes, send as sends}
use Rattle.machine.specs.Frame.{Words}
use Rattle.sheet.specs.Sheet.{Expression, Simple, set, send, goto}
use Rattle.sheet.specs.Orders.{code, simple_code, temporaries, simple_temporaries}
use Rattle.sheet.specs.Formed.{Expressed, Leads, SimpleFormed}
use Rattle.sheet.specs.Worth.{Counted, gives, faults, worth, Store, Next, onward, at, sending, do_simple}
use Rattle.sheet.specs.Following.{sent_bytes}
use Rattle.sheet.proofs.Reach.{behind_last, here, at_once, Stands, stands_first, stands_left, stands_last, carried_out, not_carried_out}
use Rattle.sheet.proofs.Values.{Small, small_worth}
use Rattle.sheet.proofs.Simulation.{Comes, lands, fails, comes_then, comes_each, Landed, landed, Lost, lost, works}

-- ---- the numbers sent

sent_more : (xs : List ℕ) (a : ℕ) → sent_bytes (xs ++ a ∷ []) ≡ sent_bytes xs ++ word_bytes a
unfolding sent_bytes
sent_more [] a = append-nil (word_bytes a)
sent_more (x ∷ xs) a = ap (λ l. word_bytes x ++ l) (sent_more xs a) ∙ sym (append_assoc (word_bytes x) (sent_bytes xs) (word_bytes a))

sent_length : (xs : List ℕ) → length (sent_bytes xs) ≡ 4 * length xs
unfolding sent_bytes
sent_length [] = refl
sent_length (x ∷ xs) = let e = sent_length xs in length-append (word_bytes x) (sent_bytes xs) ∙ omega (arith, e)

-- the output with one number more
one_sent : (out xs : List ℕ) (a : ℕ) → sets (sets out 0 (sent_bytes xs)) (4 * length xs) (word_bytes a) ≡ sets out 0 (sent_bytes (xs ++ a ∷ []))
one_sent out xs a =
    let n : 4 * length xs ≡ 0 + length (sent_bytes xs) = sym (sent_length xs) ∙ sym (zero-add (length (sent_bytes xs))) in
    ap (λ k. sets (sets out 0 (sent_bytes xs)) k (word_bytes a)) n
    ∙ sym (sets_append out 0 (sent_bytes xs) (word_bytes a))
    ∙ ap (λ l. sets out 0 l) (sym (sent_more xs a))

room_left : (m : Store) (b room : ℕ) → ltb (length m.sent) room ≡ true → sending room m b ≡ gives (onward (record { words = m.words; sent = m.sent ++ b ∷ [] })) 1
unfolding sending pick
room_left m b room h = rw h refl

no_room_left : (m : Store) (b room : ℕ) → ltb (length m.sent) room ≡ false → sending room m b ≡ faults 4 0
unfolding sending pick
no_room_left m b room h = rw h refl

-- ---- the program: its orders, V, T, the output at the start, and where GOTO leads

module _ (os : List Order) (v t n : ℕ) (out : List ℕ) (to : ℕ → ℕ) where
  -- the store is one of V variables, which are words
  pub record Sound (m : Store) : Type 0 where
    pub as_many : length m.words ≡ v + 2
    pub words_all : Words m.words

  -- the machine with the store m at order p
  abbrev pub holding : Store → ℕ → ℕ → List ℕ → Machine
  holding m a p us = here a p (length m.sent) (m.words ++ us) (sets out 0 (sent_bytes m.sent))

  -- an instruction is done: the order behind it is p
  pub data Gone (p : ℕ) : Next → Machine → Type 0 where
    gone_on : (m : Store) (a : ℕ) (us : List ℕ) → length us ≡ t → Sound m → Gone p (onward m) (holding m a p us)
    gone_to : (s : ℕ) (m : Store) (a : ℕ) (us : List ℕ) → Leads n s → length us ≡ t → Sound m → Gone p (at s m) (holding m a (to s) us)

  module _ (m : Store) (sound : Sound m) where
    abbrev pub Faulting : Machine → Type 0
    Faulting = Lost os v (length m.sent) t m.words (sets out 0 (sent_bytes m.sent)) sound.as_many

    abbrev pub Does : ℕ → Machine → Counted Next → Type 0
    Does p n x = Comes os (Gone p) Faulting n x

    abbrev pub LandedAt : ℕ → List ℕ → ℕ → Machine → Type 0
    LandedAt p ts = Landed os v (length m.sent) t m.words (sets out 0 (sent_bytes m.sent)) sound.as_many p 0 ts

    -- an expression's value, known to be a word
    values :
        (e : Expression) (a p : ℕ) (ts : List ℕ)
        → Expressed v e
        → length ts ≡ t
        → temporaries e ≤ t
        → Stands os p (code v 0 e)
        → Comes os (λ b k. LandedAt (p + length (code v 0 e)) ts b k × Small b) Faulting (holding m a p ts) (worth m.words e)
    values e a p ts x long room s =
        comes_each
        os
        Small
        (holding m a p ts)
        (worth m.words e)
        (works os v (length m.sent) t m.words (sets out 0 (sent_bytes m.sent)) sound.as_many e 0 x a p ts long (omega (arith, room)) s)
        (small_worth m.words sound.words_all v e x)

    -- ---- SET

    put_word : (w b i : ℕ) → Small b → Small (get_or (put m.words w b) i 0)
    put_word w b i small =
        by_equal
        i
        w
        (λ e. by_less
        w
        (length m.words)
        (λ h. rw (e, get_or-set_same m.words w b 0 h) small)
        (λ h. rw (get_or-eq_default (put m.words w b) 0 {n = i} (rw (length-set m.words w b, e) h)) (omega arith)))
        (λ apart. rw (get_or-set_other m.words w i b 0 (λ e. apart e)) (sound.words_all i))

    after_set : (w b : ℕ) → Small b → Sound (record { words = put m.words w b; sent = m.sent })
    after_set w b small =
        record { as_many = length-set m.words w b ∙ sound.as_many; words_all = λ i. put_word w b i small }

    does_set :
        (w b q : ℕ) (us : List ℕ)
        → length us ≡ t
        → Small b
        → w < v + 2
        → get_or os q Stop ≡ Str w
        → Does (q + 1) (holding m b q us) (gives (onward (record { words = put m.words w b; sent = m.sent })) 1)
    does_set w b q us long small inside e =
        lands
        (onward (record { words = put m.words w b; sent = m.sent }))
        1
        _
        (carried_out
        os
        b
        q
        (length m.sent)
        (m.words ++ us)
        (sets out 0 (sent_bytes m.sent))
        (Str w)
        _
        e
        (ap
        (λ ws. done (here b (q + 1) (length m.sent) ws (sets out 0 (sent_bytes m.sent))))
        (set-append_left m.words us w b (rw sound.as_many inside))))
        (gone_on (record { words = put m.words w b; sent = m.sent }) b us long (after_set w b small))

    -- ---- SEND

    after_send : (b : ℕ) → Sound (record { words = m.words; sent = m.sent ++ b ∷ [] })
    after_send b = record { as_many = sound.as_many; words_all = sound.words_all }

    sends_one :
        (b q : ℕ) (us : List ℕ)
        → ltb (length m.sent) (length out / 4) ≡ true
        → effect Send (holding m b q us) ≡ done (holding (record { words = m.words; sent = m.sent ++ b ∷ [] }) b (q + 1) us)
    unfolding sends pick
    sends_one b q us h =
        rw (ap (λ k. k / 4) (length-sets out 0 (sent_bytes m.sent)), h, length-append m.sent (b ∷ []), one_sent out m.sent b) refl

    sends_none :
        (b q : ℕ) (us : List ℕ)
        → ltb (length m.sent) (length out / 4) ≡ false
        → effect Send (holding m b q us) ≡ failed 4
    unfolding sends pick
    sends_none b q us h = rw (ap (λ k. k / 4) (length-sets out 0 (sent_bytes m.sent)), h) refl

    does_send :
        (b q : ℕ) (us : List ℕ)
        → length us ≡ t
        → get_or os q Stop ≡ Send
        → Does (q + 1) (holding m b q us) (sending (length out / 4) m b)
    does_send b q us long e =
        by_test
        (ltb (length m.sent) (length out / 4))
        (λ h. rw (room_left m b (length out / 4) h)
        (lands
        (onward (record { words = m.words; sent = m.sent ++ b ∷ [] }))
        1
        _
        (carried_out os b q (length m.sent) (m.words ++ us) (sets out 0 (sent_bytes m.sent)) Send _ e (sends_one b q us h))
        (gone_on (record { words = m.words; sent = m.sent ++ b ∷ [] }) b us long (after_send b))))
        (λ h. rw (no_room_left m b (length out / 4) h)
        (fails
        4
        0
        _
        (at_once os _)
        (not_carried_out os b q (length m.sent) (m.words ++ us) (sets out 0 (sent_bytes m.sent)) Send 4 e (sends_none b q us h))
        (lost b q us long)))

    pub does_simple :
        (u : Simple) (a p : ℕ) (ts : List ℕ)
        → SimpleFormed v n u
        → length ts ≡ t
        → simple_temporaries u ≤ t
        → Stands os p (simple_code v to u)
        → Does (p + length (simple_code v to u)) (holding m a p ts) (do_simple (length out / 4) m u)
    does_simple (set w e) a p ts x long room s =
        comes_then
        os
        (holding m a p ts)
        (worth m.words e)
        _
        (values e a p ts x.1 long room (stands_left os p (code v 0 e) (Str w ∷ []) s))
        (λ b k go. on_value b k go.0 go.1)
      where
        on_value : (b : ℕ) (k : Machine) → LandedAt (p + length (code v 0 e)) ts b k → Small b → Does (p + length (code v 0 e ++ Str w ∷ [])) k (gives (onward (record { words = put m.words w b; sent = m.sent })) 1)
        on_value b k (landed us still keeps) small =
            rw (behind_last p (code v 0 e) (Str w))
            (does_set w b (p + length (code v 0 e)) us still small x.0.1 (stands_last os p (code v 0 e) (Str w) s))
    does_simple (send e) a p ts x long room s =
        comes_then
        os
        (holding m a p ts)
        (worth m.words e)
        _
        (values e a p ts x long room (stands_left os p (code v 0 e) (Send ∷ []) s))
        (λ b k go. on_value b k go.0)
      where
        on_value : (b : ℕ) (k : Machine) → LandedAt (p + length (code v 0 e)) ts b k → Does (p + length (code v 0 e ++ Send ∷ [])) k (sending (length out / 4) m b)
        on_value b k (landed us still keeps) =
            rw (behind_last p (code v 0 e) Send)
            (does_send b (p + length (code v 0 e)) us still (stands_last os p (code v 0 e) Send s))
    does_simple (goto j) a p ts x long room s =
        lands
        (at j m)
        1
        _
        (carried_out os a p (length m.sent) (m.words ++ ts) (sets out 0 (sent_bytes m.sent)) (Jump (to j)) _ (stands_first os p _ _ s) refl)
        (gone_to j m a ts x long sound)
