-- Where none of a run's statements fly, what it goes by follows from what is public before the first one, one after the other:
-- what is asked, seen and answered then is said of statements that are each served alone.
use Rattle.ob_headline.proofs.Words.{after, after_all, after_room, Answer, AnswersFrom, AnswersIn, ap, AreEntries, AreSeen, arith, Base, Bool, Broken, Ending, Err, false, FliesNone, Gathering, gathering_after, if◌then◌else◌, is_failed, is_full_now, IsTrue, Joins, Lawful, length, List, most_of, next, None, Ok, Option, Public, refl, refusal_now, Refused, script, Seen, seen_or_cut, Served, served, Session, session_after, skeleton, Some, Spelt, Stmt, StoreFault, Story, subst, suc, sym, take, trace, trace_alone, trace_of, words_of, zero, ℕ, [], ◌++◌, ◌+◌, ◌-◌, ◌∙◌, ◌∷◌, ◌≡◌, ◌⊎◌}
use Rattle.std.specs.Prelude.{◌↔◌}
use Rattle.ob_headline.specs.Accesses.{Says}
use Rattle.ob_headline.specs.Flights.{Entered, Position, positions, served_by}
use Rattle.ob_headline.specs.Meaning.{AnswersLast, BeginsAnswer, StopsAt}
use Rattle.ob_headline.specs.Words.{refused_at}
use Rattle.ob_mean.specs.Replay.{How, IsCutOff, head_of, rest_of}
use Rattle.ob_script.specs.Flights.{Alone, Entry, Together, all_alone}

-- ---- entries
-- none of them is a flight
pub alone_entries : (most answered : ℕ) (entries : List Entry) → most ≡ 1 → AreEntries most answered entries → entries ≡ all_alone (served_by entries)
unfolding AreEntries served_by
alone_entries most answered [] one are = refl
alone_entries most answered (Alone x ∷ entries) one are =
    ap (λ (es : List Entry). Alone x ∷ es) (alone_entries most (answered - 1) entries one are.2)
alone_entries most answered (Together flown None ∷ entries) one are = absurd (omega (arith, one, are.0.0.some, are.0.0.few))
alone_entries most answered (Together flown (Some asked) ∷ entries) one are = absurd (omega (arith, one, are.0.0.some, are.0.0.few))

pub entered_alone : (base : Base) (story : Story) → FliesNone base → Entered base story → story.entries ≡ all_alone (story.seen ++ story.last)
entered_alone base story one entered =
    alone_entries (most_of base) (length story.seen) story.entries one entered.entries ∙ ap all_alone entered.served

pub traced_alone : (base : Base) (story : Story) → FliesNone base → Entered base story → trace_of base story.entries ≡ trace base.public (story.seen ++ story.last)
traced_alone base story one entered =
    ap (λ (es : List Entry). trace_of base es) (entered_alone base story one entered)
    ∙ trace_alone (words_of base) 0 base.public (story.seen ++ story.last)

-- ---- what is seen
-- of each statement, one after the other
unfoldable pub SeenAlone : (Leaves : Public → Stmt → Seen → Type 0) → Public → (m : ℕ) → Option Gathering → List Spelt → List Answer → List Served → Type 0
SeenAlone Leaves p m g [] answers seen = seen ≡ []
SeenAlone Leaves p m g (Err at ∷ spelt) [] seen = SeenAlone Leaves p m None spelt [] seen
SeenAlone Leaves p m g (Err at ∷ spelt) (one ∷ answers) seen = (one ≡ refused_at at) × SeenAlone Leaves p m None spelt answers seen
SeenAlone Leaves p m g (Ok stmt ∷ spelt) answers [] = ⊥
SeenAlone Leaves p m g (Ok stmt ∷ spelt) [] (x ∷ seen) =
    (x.skeleton ≡ skeleton stmt) × Lawful p m stmt x.seen × (Leaves p stmt x.seen × Joins p m g stmt x.seen)
    × SeenAlone Leaves (next p x.skeleton x.seen) (m + length (script p x.skeleton x.seen)) (gathering_after p m g stmt x.seen.end) spelt [] seen
SeenAlone Leaves p m g (Ok stmt ∷ spelt) (one ∷ answers) (x ∷ seen) =
    (x.skeleton ≡ skeleton stmt) × Lawful p m stmt x.seen
    × (Says (refusal_now p m stmt) p stmt one × (IsTrue (is_failed g x.seen.end) ↔ (one.outcome ≡ Refused StoreFault)) × (one.plan ≡ x.seen.plan) × Joins p m g stmt x.seen)
    × SeenAlone Leaves (next p x.skeleton x.seen) (m + length (script p x.skeleton x.seen)) (gathering_after p m g stmt x.seen.end) spelt answers seen

pub seen_alone : (Leaves : Public → Stmt → Seen → Type 0) (words : ℕ → ℕ) (t : ℕ) (p : Public) (m : ℕ) (g : Option Gathering) (spelt : List Spelt) (answers : List Answer) (seen : List Served)
    → AreSeen Leaves (positions words t p m (all_alone seen)) g spelt answers seen → SeenAlone Leaves p m g spelt answers seen
unfolding AreSeen SeenAlone positions
seen_alone Leaves words t p m g [] answers seen are = are
seen_alone Leaves words t p m g (Err at ∷ spelt) [] seen are = seen_alone Leaves words t p m None spelt [] seen are
seen_alone Leaves words t p m g (Err at ∷ spelt) (one ∷ answers) seen are = (are.0, seen_alone Leaves words t p m None spelt answers seen are.1)
seen_alone Leaves words t p m g (Ok stmt ∷ spelt) [] [] are = absurd are
seen_alone Leaves words t p m g (Ok stmt ∷ spelt) (one ∷ answers) [] are = absurd are
seen_alone Leaves words t p m g (Ok stmt ∷ spelt) [] (x ∷ seen) are =
    let rest = seen_alone Leaves words t (next p x.skeleton x.seen) (m + length (script p x.skeleton x.seen)) (gathering_after p m g stmt x.seen.end) spelt [] seen are.2 in
    (are.0, are.1.0, are.1.1, rest)
seen_alone Leaves words t p m g (Ok stmt ∷ spelt) (one ∷ answers) (x ∷ seen) are =
    let rest = seen_alone Leaves words t (next p x.skeleton x.seen) (m + length (script p x.skeleton x.seen)) (gathering_after p m g stmt x.seen.end) spelt answers seen are.3 in
    (are.0, are.1, are.2, rest)

-- they are these statements
unfoldable pub AreOf : List Spelt → List Served → Type 0
AreOf [] seen = seen ≡ []
AreOf (Err at ∷ spelt) seen = AreOf spelt seen
AreOf (Ok stmt ∷ spelt) [] = ⊥
AreOf (Ok stmt ∷ spelt) (x ∷ seen) = (x.skeleton ≡ skeleton stmt) × AreOf spelt seen

pub seen_of : (Leaves : Public → Stmt → Seen → Type 0) (p : Public) (m : ℕ) (g : Option Gathering) (spelt : List Spelt) (answers : List Answer) (seen : List Served) → SeenAlone Leaves p m g spelt answers seen → AreOf spelt seen
unfolding SeenAlone AreOf
seen_of Leaves p m g [] answers seen are = are
seen_of Leaves p m g (Err at ∷ spelt) [] seen are = seen_of Leaves p m None spelt [] seen are
seen_of Leaves p m g (Err at ∷ spelt) (one ∷ answers) seen are = seen_of Leaves p m None spelt answers seen are.1
seen_of Leaves p m g (Ok stmt ∷ spelt) [] [] are = absurd are
seen_of Leaves p m g (Ok stmt ∷ spelt) (one ∷ answers) [] are = absurd are
seen_of Leaves p m g (Ok stmt ∷ spelt) [] (x ∷ seen) are =
    (are.0, seen_of Leaves (next p x.skeleton x.seen) (m + length (script p x.skeleton x.seen)) (gathering_after p m g stmt x.seen.end) spelt [] seen are.3)
seen_of Leaves p m g (Ok stmt ∷ spelt) (one ∷ answers) (x ∷ seen) are =
    (are.0, seen_of Leaves (next p x.skeleton x.seen) (m + length (script p x.skeleton x.seen)) (gathering_after p m g stmt x.seen.end) spelt answers seen are.3)

pub of_both : (xs ys : List Spelt) (here there : List Served) → AreOf xs here → AreOf ys there → AreOf (xs ++ ys) (here ++ there)
unfolding AreOf
of_both [] ys here there one two = subst (λ (l : List Served). AreOf ys (l ++ there)) (sym one) two
of_both (Err at ∷ xs) ys here there one two = of_both xs ys here there one two
of_both (Ok stmt ∷ xs) ys [] there one two = absurd one
of_both (Ok stmt ∷ xs) ys (a ∷ here) there one two = (one.0, of_both xs ys here there one.1 two)

-- ---- the first of some
no_take : {A : Type 0} (n : ℕ) → ◌≡◌ {A = List A} (take n []) []
no_take zero = refl
no_take (suc n) = refl

pub head_taken : (n : ℕ) (bs : Broken) → head_of (take (suc n) bs) ≡ head_of bs
head_taken n [] = refl
head_taken n (b ∷ bs) = refl

pub rest_taken : (n : ℕ) (bs : Broken) → rest_of (take (suc n) bs) ≡ take n (rest_of bs)
rest_taken n [] = sym (no_take n)
rest_taken n (b ∷ bs) = refl

-- ---- what is meant
abbrev pub BeginsAlone : Ending → Session → Spelt → List Served → (part : List ℕ) → Type 0
BeginsAlone ending s (Err at) seen part = part ≡ (refused_at at).bytes
BeginsAlone ending s (Ok stmt) [] part = ⊥
BeginsAlone ending s (Ok stmt) (x ∷ seen) part = StopsAt ending s stmt x.seen part ⊎ AnswersLast ending s stmt x.seen part

-- from a session of the model on, one statement after the other
unfoldable pub AnswersAlone : Ending → Session → List Spelt → Broken → List Answer → List Served → (part : List ℕ) → Type 0
AnswersAlone ending s [] broken answers seen part = (answers ≡ []) × (part ≡ [])
AnswersAlone ending s (x ∷ spelt) broken [] seen part = BeginsAlone ending s x seen part
AnswersAlone ending s (Err at ∷ spelt) broken (one ∷ more) seen part = (one ≡ refused_at at) × AnswersAlone ending s spelt (rest_of broken) more seen part
AnswersAlone ending s (Ok stmt ∷ spelt) broken (one ∷ more) [] part = ⊥
AnswersAlone ending s (Ok stmt ∷ spelt) broken (one ∷ more) (x ∷ seen) part =
    (is_full_now s stmt ≡ false) × IsCutOff (head_of broken) s stmt × AnswersIn (head_of broken) s stmt one × (x.seen ≡ seen_or_cut (head_of broken) s stmt)
    × AnswersAlone ending (after (head_of broken) s stmt) spelt (rest_of broken) more seen part

-- by what each statement goes
abbrev pub alone_from : (words : ℕ → ℕ) → (t : ℕ) → Session → List Served → List Position
alone_from words t s seen = positions words t s.public s.asked (all_alone seen)

module _ (words : ℕ → ℕ) (t : ℕ) where
  abbrev Goes : (ending : Ending) → Session → List Served → List Spelt → Broken → List Answer → List Served → (part : List ℕ) → Type 0
  Goes ending s by spelt broken answers seen part = AnswersFrom ending (alone_from words t s by) s spelt broken answers seen part

  begins_alone : (ending : Ending) (s : Session) (x : Spelt) (behind : List Spelt) (seen : List Served) (part : List ℕ) → BeginsAnswer ending (alone_from words t s seen) s x behind seen part → BeginsAlone ending s x seen part
  unfolding positions
  begins_alone ending s (Err at) behind seen part begins = begins
  begins_alone ending s (Ok stmt) behind [] part begins = absurd begins
  begins_alone ending s (Ok stmt) behind (x ∷ seen) part begins = begins

  alone_begins : (ending : Ending) (s : Session) (x : Spelt) (behind : List Spelt) (seen : List Served) (part : List ℕ) → BeginsAlone ending s x seen part → BeginsAnswer ending (alone_from words t s seen) s x behind seen part
  unfolding positions
  alone_begins ending s (Err at) behind seen part begins = begins
  alone_begins ending s (Ok stmt) behind [] part begins = absurd begins
  alone_begins ending s (Ok stmt) behind (x ∷ seen) part begins = begins

  -- what is public after a statement, and how many accesses were asked, are those of the model
  abbrev positions_then : Session → Served → List Served → List Position
  positions_then s x seen = positions words t (next s.public x.skeleton x.seen) (s.asked + length (script s.public x.skeleton x.seen)) (all_alone seen)

  is_served : (s : Session) (stmt : Stmt) (how : How) (x : Served) → x.skeleton ≡ skeleton stmt → x.seen ≡ seen_or_cut how s stmt → x ≡ served how s stmt
  is_served s stmt how x sk here = λ i. record { skeleton = sk i; seen = here i }

  pub as_alone : (ending : Ending) (s : Session) (spelt : List Spelt) (broken : Broken) (answers : List Answer) (seen : List Served) (part : List ℕ)
      → AreOf spelt seen → Goes ending s seen spelt broken answers seen part → AnswersAlone ending s spelt broken answers seen part
  unfolding AreOf AnswersFrom AnswersAlone positions
  as_alone ending s [] broken answers seen part of all = all
  as_alone ending s (x ∷ spelt) broken [] seen part of all = begins_alone ending s x spelt seen part all
  as_alone ending s (Err at ∷ spelt) broken (one ∷ more) seen part of all = (all.0, as_alone ending s spelt (rest_of broken) more seen part of all.1)
  as_alone ending s (Ok stmt ∷ spelt) broken (one ∷ more) [] part of all = absurd all
  as_alone ending s (Ok stmt ∷ spelt) broken (one ∷ more) (x ∷ seen) part of all =
      let how = head_of broken in
      let rest = subst (λ (y : Served). AnswersFrom ending (positions_then s y seen) (after how s stmt) spelt (rest_of broken) more seen part) (is_served s stmt how x of.0 all.3) all.4 in
      (all.0, all.1, all.2, all.3, as_alone ending (after how s stmt) spelt (rest_of broken) more seen part of.1 rest)

  pub from_alone : (ending : Ending) (s : Session) (spelt : List Spelt) (broken : Broken) (answers : List Answer) (seen : List Served) (part : List ℕ)
      → AreOf spelt seen → AnswersAlone ending s spelt broken answers seen part → Goes ending s seen spelt broken answers seen part
  unfolding AreOf AnswersFrom AnswersAlone positions
  from_alone ending s [] broken answers seen part of all = all
  from_alone ending s (x ∷ spelt) broken [] seen part of all = alone_begins ending s x spelt seen part all
  from_alone ending s (Err at ∷ spelt) broken (one ∷ more) seen part of all = (all.0, from_alone ending s spelt (rest_of broken) more seen part of all.1)
  from_alone ending s (Ok stmt ∷ spelt) broken (one ∷ more) [] part of all = absurd all
  from_alone ending s (Ok stmt ∷ spelt) broken (one ∷ more) (x ∷ seen) part of all =
      let how = head_of broken in
      let rest = from_alone ending (after how s stmt) spelt (rest_of broken) more seen part of.1 all.4 in
      (all.0, all.1, all.2, all.3, subst (λ (y : Served). AnswersFrom ending (positions_then s y seen) (after how s stmt) spelt (rest_of broken) more seen part) (sym (is_served s stmt how x of.0 all.3)) rest)

  -- the session behind as many texts as were answered
  stays_there : (s : Session) (seen : List Served) (bs : Broken) → session_after (alone_from words t s seen) s [] bs ≡ s
  unfolding session_after positions
  stays_there s [] bs = refl
  stays_there s (x ∷ seen) bs = refl

  -- a statement that meets no full stash
  behind_served : (s : Session) (stmt : Stmt) (how : How) (bs : Broken) (x : Served) (seen : List Served) (spelt : List Spelt) → head_of bs ≡ how → is_full_now s stmt ≡ false → x.skeleton ≡ skeleton stmt → x.seen ≡ seen_or_cut how s stmt
      → session_after (alone_from words t s (x ∷ seen)) s (Ok stmt ∷ spelt) bs ≡ session_after (alone_from words t (after how s stmt) seen) (after how s stmt) spelt (rest_of bs)
  unfolding session_after positions
  behind_served s stmt how bs x seen spelt is room sk here =
      ap (λ (b : Bool). if b then s else session_after (positions_then s x seen) (after (head_of bs) s stmt) spelt (rest_of bs)) room
      ∙ (λ i. session_after (positions_then s (is_served s stmt how x sk here i) seen) (after (is i) s stmt) spelt (rest_of bs))

  pub behind_alone : (ending : Ending) (s : Session) (spelt : List Spelt) (broken : Broken) (answers : List Answer) (seen : List Served) (part : List ℕ) → AreOf spelt seen → AnswersAlone ending s spelt broken answers seen part
      → session_after (alone_from words t s seen) s (take (length answers) spelt) (take (length answers) broken) ≡ after_all s (take (length answers) spelt) (take (length answers) broken)
  unfolding AreOf AnswersAlone session_after
  behind_alone ending s [] broken [] seen part of all = stays_there s seen []
  behind_alone ending s [] broken (one ∷ more) seen part of all = absurd (cc all.0)
  behind_alone ending s (x ∷ spelt) broken [] seen part of all = stays_there s seen []
  behind_alone ending s (Err at ∷ spelt) broken (one ∷ more) seen part of all =
      let rest = behind_alone ending s spelt (rest_of broken) more seen part of all.1 in
      let same : rest_of (take (suc (length more)) broken) ≡ take (length more) (rest_of broken) = rest_taken (length more) broken in
      subst (λ (bs : Broken). session_after (alone_from words t s seen) s (take (length more) spelt) bs ≡ after_all s (take (length more) spelt) bs) (sym same) rest
  behind_alone ending s (Ok stmt ∷ spelt) broken (one ∷ more) [] part of all = absurd all
  behind_alone ending s (Ok stmt ∷ spelt) broken (one ∷ more) (x ∷ seen) part of all =
      let how = head_of broken in
      let bs : Broken = take (suc (length more)) broken in
      let is : head_of bs ≡ how = head_taken (length more) broken in
      let rest = behind_alone ending (after how s stmt) spelt (rest_of broken) more seen part of.1 all.4 in
      let same : rest_of bs ≡ take (length more) (rest_of broken) = rest_taken (length more) broken in
      let there = subst (λ (cs : Broken). session_after (alone_from words t (after how s stmt) seen) (after how s stmt) (take (length more) spelt) cs ≡ after_all (after how s stmt) (take (length more) spelt) cs) (sym same) rest in
      behind_served s stmt how bs x seen (take (length more) spelt) is all.0 of.0 all.3 ∙ there
      ∙ ap (λ (h : How). after_all (after h s stmt) (take (length more) spelt) (rest_of bs)) (sym is)
      ∙ sym (after_room s stmt (take (length more) spelt) bs all.0)

  pub behind_all : (ending : Ending) (s : Session) (spelt : List Spelt) (broken : Broken) (answers : List Answer) (seen : List Served) (part : List ℕ) → AreOf spelt seen → AnswersAlone ending s spelt broken answers seen part
      → length answers ≡ length spelt → session_after (alone_from words t s seen) s spelt broken ≡ after_all s spelt broken
  unfolding AreOf AnswersAlone session_after
  behind_all ending s [] broken answers seen part of all each = stays_there s seen broken
  behind_all ending s (x ∷ spelt) broken [] seen part of all each = absurd (omega (arith, each))
  behind_all ending s (Err at ∷ spelt) broken (one ∷ more) seen part of all each = behind_all ending s spelt (rest_of broken) more seen part of all.1 (omega (arith, each))
  behind_all ending s (Ok stmt ∷ spelt) broken (one ∷ more) [] part of all each = absurd all
  behind_all ending s (Ok stmt ∷ spelt) broken (one ∷ more) (x ∷ seen) part of all each =
      let how = head_of broken in
      behind_served s stmt how broken x seen spelt refl all.0 of.0 all.3
      ∙ behind_all ending (after how s stmt) spelt (rest_of broken) more seen part of.1 all.4 (omega (arith, each))
      ∙ sym (after_room s stmt spelt broken all.0)
