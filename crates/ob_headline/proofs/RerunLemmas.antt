-- Two runs that came to their end, and of which no text was answered that the store failed.
use Rattle.ob_headline.proofs.Words.{AfterCount, Answer, ap, append-nil, arith, asked_by, BadKey, Base, Bool, Continuous, Cut, End, Ending, Err, failures, false, FliesNone, Gathering, gathering_after, goes_into, Hash, Headline, Holds, if◌then◌else◌, inl, inr, is_access, is_cut, is_joined, is_none, is_some, IsSome, IsTrue, Batched, Joins, KeySet, Large, Lawful, length, List, next, None, not, Ok, Option, outcome_failures, Outside, Plan, Public, Ran, refl, Refusal, refusal_now, Refused, Report, script, Seen, seen_by, Skeleton, skeleton, Small, Some, SomeRun, Spelt, Static, status_of, Stmt, StoreFault, subst, sym, trace, true, Usage, Whole, ℕ, [], ◌&&◌, ◌++◌, ◌+◌, ◌∙◌, ◌∷◌, ◌≡◌, ◌≤◌, ◌⊎◌}
use Rattle.std.proofs.Common.{◌||◌}
use Rattle.ob_base.specs.declared.refusal.Stop.TheVariants as Stops
use Rattle.ob_base.specs.declared.skeleton.Skeleton.TheVariants as K
use Rattle.ob_verdict.specs.declared.outcome.Outcome.{Outcome}
use Rattle.ob_headline.proofs.BatchLemmas.{cut_fails, gathers_alike, none_gathered}
use Rattle.ob_headline.proofs.FlatLemmas.{no_leaf}
use Rattle.ob_headline.specs.Reruns.{Alike, EndsWell, GoOnFromOne, IsPlain, ShowAlike, Stated, any_counted, failures_of, gathered_at, gathered_behind, plainly, plainly_at, seen_plainly, shows_more, stated, stated_of}
use Rattle.ob_headline.specs.Settings.{limit_of}
use Rattle.ob_headline.specs.Statements.{SpellFirst}
use Rattle.ob_headline.proofs.ServedAlone.{SeenAlone}
use Rattle.ob_headline.proofs.AloneRuns.{run_alone}
use Rattle.ob_headline.specs.Status.{Because}
use Rattle.ob_mean.specs.Lawful.{EndsUncounted, IsCount, is_counted, selects_rows}
use Rattle.ob_script.specs.Trace.{Served as Entry}
use Rattle.ob_sql.specs.declared.stmt.Stmt.TheVariants.{Create}

-- of each statement its skeleton, and what is seen of it, which is lawful, and joins the batch that is gathered or doesn't;
-- none is cut off
unfoldable pub AreUncut : Public → ℕ → Option Gathering → List Stated → List Entry → Type 0
AreUncut p m g [] seen = seen ≡ []
AreUncut p m g (t ∷ ts) [] = ⊥
AreUncut p m g (t ∷ ts) (x ∷ seen) =
    (x.skeleton ≡ skeleton t.stmt) × Lawful p m t.stmt x.seen × (is_cut x.seen.end ≡ false) × Joins p m (gathered_at g t) t.stmt x.seen
    × AreUncut (next p x.skeleton x.seen) (m + length (script p x.skeleton x.seen)) (gathered_behind p m g t x.seen.end) ts seen

-- ---- what is seen of a statement that was not cut off, where it accesses no index, and is no SELECT of rows or results are
-- padded, follows from its early refusal
-- it holds neither a k nor a plan
pub record HoldsNone (p : Public) (stmt : Stmt) (here : Seen) (k : Option ℕ) (plan second : Option Plan) : Type 0 where
  pub no_k : k ≡ None
  pub no_plan : plan ≡ None
  pub no_second : second ≡ None
  pub ends : EndsUncounted p stmt here.end

module _ (p : Public) (stmt : Stmt) (here : Seen) (plain : IsPlain p stmt) where
  not_counted : {A : Type 0} (k : ℕ) → IsCount p stmt k → A
  not_counted k count = elim plain.1 [
    | inl uncounted ↦
        let counted = count.counted in
        let none : is_counted p stmt ≡ false = ap (λ (b : Bool). b && not (is_access p (skeleton stmt))) uncounted in
        absurd (cc (counted, none))
    | inr padded ↦ let unpadded = ap is_some count.unpadded in absurd (cc (padded, unpadded))
  ]

  pub holds_none : (k : Option ℕ) (plan second : Option Plan) → Holds p stmt here k plan second → HoldsNone p stmt here k plan second
  holds_none None None None holds = record { no_k = refl; no_plan = refl; no_second = refl; ends = holds }
  holds_none None None (Some s) holds = absurd holds
  holds_none None (Some plan) None holds = absurd holds
  holds_none None (Some plan) (Some s) holds = absurd holds
  holds_none (Some k) None None holds = not_counted k holds.0
  holds_none (Some k) None (Some s) holds = absurd holds
  holds_none (Some k) (Some plan) None holds = not_counted k holds.0
  holds_none (Some k) (Some Small) (Some s) holds = absurd holds
  holds_none (Some k) (Some Large) (Some s) holds = absurd holds
  holds_none (Some k) (Some Continuous) (Some s) holds = absurd holds
  holds_none (Some k) (Some Hash) (Some Small) holds = not_counted k holds.0
  holds_none (Some k) (Some Hash) (Some Large) holds = absurd holds
  holds_none (Some k) (Some Hash) (Some Continuous) holds = absurd holds
  holds_none (Some k) (Some Hash) (Some Hash) holds = absurd holds

-- the end of a statement by its early refusal, and by whether it goes into the batch that is gathered
abbrev end_by : (early goes : Bool) → End
end_by true goes = Static
end_by false true = Batched
end_by false false = Whole

-- by what it joins or doesn't
goes_by : (goes early joined : Bool) (o : Option Refusal) → is_some o ≡ early → joined ≡ (goes && is_none o) → joined ≡ (goes && not early)
goes_by goes early joined None now joins = joins ∙ ap (λ (b : Bool). goes && not b) now
goes_by goes early joined (Some r) now joins = joins ∙ ap (λ (b : Bool). goes && not b) now

whole_by : (goes : Bool) → false ≡ (goes && true) → Whole ≡ end_by false goes
whole_by true joins = absurd (cc joins)
whole_by false joins = refl

joined_by : (goes early : Bool) → true ≡ (goes && not early) → Batched ≡ end_by early goes
joined_by true true joins = absurd (cc joins)
joined_by true false joins = refl
joined_by false true joins = absurd (cc joins)
joined_by false false joins = absurd (cc joins)

module _ (p : Public) (m : ℕ) (g : Option Gathering) (stmt : Stmt) (here : Seen) (lawful : Lawful p m stmt here) (joins : Joins p m g stmt here) (uncut : is_cut here.end ≡ false) where
  joins_at : (end : End) (early : Bool) → here.end ≡ end → is_some (refusal_now p m stmt) ≡ early → is_joined end ≡ (goes_into p g (skeleton stmt) && not early)
  joins_at end early is now = goes_by (goes_into p g (skeleton stmt)) early (is_joined end) (refusal_now p m stmt) now (ap is_joined (sym is) ∙ joins)

  end_is : (end : End) (early : Bool) → here.end ≡ end → is_some (refusal_now p m stmt) ≡ early → EndsUncounted p stmt end → end ≡ end_by early (goes_into p g (skeleton stmt))
  end_is Static true is now ends = refl
  end_is Static false is now ends = let early = lawful.static.0 is in absurd (cc (early, now))
  end_is Whole true is now ends = let static = lawful.static.1 now in absurd (cc (static, is))
  end_is Whole false is now ends = whole_by (goes_into p g (skeleton stmt)) (joins_at Whole false is now)
  end_is AfterCount early is now ends = absurd ends
  end_is Batched early is now ends = joined_by (goes_into p g (skeleton stmt)) early (joins_at Batched early is now)
  end_is (Cut n) early is now ends = absurd (cc (uncut, ap is_cut is))

plain_of : (refused goes : Bool) (here : Seen) → here.k ≡ None → here.plan ≡ None → here.then ≡ None → here.leaf ≡ None → here.end ≡ end_by refused goes → here ≡ seen_plainly refused goes
plain_of true goes here k plan second leaf end = λ i. record { k = k i; plan = plan i; then = second i; leaf = leaf i; end = end i }
plain_of false true here k plan second leaf end = λ i. record { k = k i; plan = plan i; then = second i; leaf = leaf i; end = end i }
plain_of false false here k plan second leaf end = λ i. record { k = k i; plan = plan i; then = second i; leaf = leaf i; end = end i }

pub shows_plainly : (p : Public) (m : ℕ) (g : Option Gathering) (stmt : Stmt) (here : Seen) → Lawful p m stmt here → Joins p m g stmt here → IsPlain p stmt → is_cut here.end ≡ false → here ≡ plainly p m g stmt
shows_plainly p m g stmt here lawful joins plain uncut =
    let held = holds_none p stmt here plain here.k here.plan here.then lawful.holds in
    plain_of (is_some (refusal_now p m stmt)) (goes_into p g (skeleton stmt)) here held.no_k held.no_plan held.no_second (no_leaf p (skeleton stmt) here.leaf here.end plain.0 lawful.leaf)
    (end_is p m g stmt here lawful joins uncut here.end (is_some (refusal_now p m stmt)) refl refl held.ends)

-- without batches none is served with another
unjoined : (p : Public) (stmt : Stmt) (end : End) → p.batch ≡ None → EndsUncounted p stmt end → is_joined end ≡ false
unjoined p stmt Batched none ends = let batched = ends.batched in absurd (cc (ap is_some none, batched))
unjoined p stmt other none ends = refl

pub shows_alone : (p : Public) (m : ℕ) (stmt : Stmt) (here : Seen) → p.batch ≡ None → Lawful p m stmt here → IsPlain p stmt → is_cut here.end ≡ false → here ≡ plainly p m None stmt
shows_alone p m stmt here none lawful plain uncut =
    let held = holds_none p stmt here plain here.k here.plan here.then lawful.holds in
    shows_plainly p m None stmt here lawful (unjoined p stmt here.end none held.ends) plain uncut

-- a SELECT of rows is one by its skeleton
abbrev is_rows : Skeleton → Bool
is_rows (K.Rows source columns) = true
is_rows _ = false

counted_rows : (stmt : Stmt) → selects_rows stmt ≡ is_rows (skeleton stmt)
counted_rows (Create table columns capacity shape) = refl
counted_rows other = refl

same_counted : (a b : Stmt) → skeleton a ≡ skeleton b → selects_rows a ≡ selects_rows b
same_counted a b is = counted_rows a ∙ ap is_rows is ∙ sym (counted_rows b)

-- of which no more is seen
plain_if : (p : Public) (stmt : Stmt) (access counted padded : Bool) → is_access p (skeleton stmt) ≡ access → selects_rows stmt ≡ counted → is_some p.pad ≡ padded
    → (access || (counted && not padded)) ≡ false → IsPlain p stmt
plain_if p stmt true counted padded of is pad none = absurd (cc none)
plain_if p stmt false false padded of is pad none = (of, inl is)
plain_if p stmt false true true of is pad none = (of, inr pad)
plain_if p stmt false true false of is pad none = absurd (cc none)

pub plain_unless : (p : Public) (stmt : Stmt) → shows_more p stmt ≡ false → IsPlain p stmt
plain_unless p stmt none = plain_if p stmt (is_access p (skeleton stmt)) (selects_rows stmt) (is_some p.pad) refl refl refl none

plain_too : (p : Public) (a b : Stmt) → skeleton a ≡ skeleton b → IsPlain p a → IsPlain p b
plain_too p a b sk plain =
    (ap (is_access p) (sym sk) ∙ plain.0, elim plain.1 [ inl none ↦ inl (sym (same_counted a b sk) ∙ none) | inr padded ↦ inr padded ])

-- the same ones are apart
same_gathered : (g : Option Gathering) (a b : Stated) → a.apart ≡ b.apart → gathered_at g a ≡ gathered_at g b
same_gathered g a b apart = ap (λ (x : Bool). if x then None else g) apart

module _ (p : Public) (m : ℕ) (g : Option Gathering) (a b : Stated) (sk : skeleton a.stmt ≡ skeleton b.stmt) (early : is_some (refusal_now p m a.stmt) ≡ is_some (refusal_now p m b.stmt)) (apart : a.apart ≡ b.apart) where
  plainly_alike : plainly_at p m g a ≡ plainly_at p m g b
  plainly_alike = λ i. seen_plainly (early i) (goes_into p (same_gathered g a b apart i) (sk i))

  then_alike : (end : End) → gathered_behind p m g a end ≡ gathered_behind p m g b end
  then_alike end =
      gathers_alike p m (gathered_at g a) a.stmt b.stmt end sk early
      ∙ ap (λ (h : Option Gathering). gathering_after p m h b.stmt end) (same_gathered g a b apart)

  one_alike : (x y : Seen) (more : Bool) → shows_more p a.stmt ≡ more → Lawful p m a.stmt x → Lawful p m b.stmt y → is_cut x.end ≡ false → is_cut y.end ≡ false
      → Joins p m (gathered_at g a) a.stmt x → Joins p m (gathered_at g b) b.stmt y → (IsTrue (shows_more p a.stmt) → x ≡ y) → x ≡ y
  one_alike x y true is lawful lawful_too uncut uncut_too joins joins_too shows = shows is
  one_alike x y false is lawful lawful_too uncut uncut_too joins joins_too shows =
      let plain = plain_unless p a.stmt is in
      shows_plainly p m (gathered_at g a) a.stmt x lawful joins plain uncut ∙ plainly_alike
      ∙ sym (shows_plainly p m (gathered_at g b) b.stmt y lawful_too joins_too (plain_too p a.stmt b.stmt sk plain) uncut_too)

same_seen : (p : Public) (m : ℕ) (g : Option Gathering) (ps : List Stated) (xs : List Entry) (qs : List Stated) (ys : List Entry) → AreUncut p m g ps xs → AreUncut p m g qs ys → ShowAlike p m ps xs qs ys → xs ≡ ys
unfolding AreUncut ShowAlike
same_seen p m g [] xs [] ys a b alike = a ∙ sym b
same_seen p m g [] xs (b ∷ qs) ys lawful lawful_too alike = absurd alike
same_seen p m g (a ∷ ps) xs [] ys lawful lawful_too alike = absurd alike
same_seen p m g (a ∷ ps) [] (b ∷ qs) ys lawful lawful_too alike = absurd alike
same_seen p m g (a ∷ ps) (x ∷ xs) (b ∷ qs) [] lawful lawful_too alike = absurd alike
same_seen p m g (a ∷ ps) (x ∷ xs) (b ∷ qs) (y ∷ ys) lawful lawful_too alike =
    let sk : x.skeleton ≡ y.skeleton = lawful.0 ∙ alike.0 ∙ sym lawful_too.0 in
    let here : x.seen ≡ y.seen = one_alike p m g a b alike.0 alike.1 alike.2 x.seen y.seen (shows_more p a.stmt) refl lawful.1 lawful_too.1 lawful.2 lawful_too.2 lawful.3 lawful_too.3 alike.3 in
    let one : x ≡ y = λ i. record { skeleton = sk i; seen = here i } in
    let there = subst (λ (h : Option Gathering). AreUncut (next p y.skeleton y.seen) (m + length (script p y.skeleton y.seen)) h qs ys) (sym (then_alike p m g a b alike.0 alike.1 alike.2 y.seen.end)) lawful_too.4 in
    let rest = same_seen (next p x.skeleton x.seen) (m + length (script p x.skeleton x.seen)) (gathered_behind p m g a x.seen.end) ps xs qs ys lawful.4
    (subst (λ (z : Entry). AreUncut (next p z.skeleton z.seen) (m + length (script p z.skeleton z.seen)) (gathered_behind p m g a z.seen.end) qs ys) (sym one) there) alike.4 in
    λ i. one i ∷ rest i

-- ---- of a run by its headline
-- none was cut off where no text was answered that the store failed
pub failure_is : (o : Outcome) → o ≡ Refused StoreFault → outcome_failures o ≡ 1
failure_is o is = ap outcome_failures is

pub not_cut : (b : Bool) (o : Outcome) → (IsTrue b → o ≡ Refused StoreFault) → outcome_failures o ≡ 0 → b ≡ false
not_cut true o cut none = let one = failure_is o (cut refl) in absurd (omega (arith, one, none))
not_cut false o cut none = refl

-- what is gathered before a text, by whether one that is none was right before it
abbrev pub gathered_if : (apart : Bool) → Option Gathering → Option Gathering
gathered_if apart g = if apart then None else g

-- without batches nothing is gathered
abbrev pub GathersIf : (batched : Bool) → Public → Option Gathering → Type 0
GathersIf batched p g = batched ≡ false → (p.batch ≡ None) × (g ≡ None)

pub none_before : (batched : Bool) (p : Public) (g : Option Gathering) → GathersIf batched p g → None ≡ gathered_if batched g
none_before true p g gathers = refl
none_before false p g gathers = let none = gathers refl in sym none.1

none_if : (apart : Bool) (g : Option Gathering) → g ≡ None → gathered_if apart g ≡ None
none_if true g none = refl
none_if false g none = none

pub gathers_on : (batched : Bool) (p : Public) (m : ℕ) (g : Option Gathering) (t : Stated) (sk : Skeleton) (here : Seen) → GathersIf batched p g → GathersIf batched (next p sk here) (gathered_behind p m g t here.end)
gathers_on batched p m g t sk here gathers is =
    let none = gathers is in
    (none.0, ap (λ (h : Option Gathering). gathering_after p m h t.stmt here.end) (none_if t.apart g none.1) ∙ none_gathered p m t.stmt here.end none.0)

all_uncut : (Leaves : Public → Stmt → Seen → Type 0) (spelt : List Spelt) (answers : List Answer) (batched apart : Bool) (p : Public) (m : ℕ) (g : Option Gathering) (seen : List Entry) → GathersIf batched p g
    → SeenAlone Leaves p m (gathered_if apart g) spelt answers seen → length answers ≡ length spelt → failures answers ≡ 0 → AreUncut p m g (stated batched apart spelt) seen
unfolding SeenAlone failures stated AreUncut
all_uncut Leaves [] answers batched apart p m g seen gathers lawful each none = lawful
all_uncut Leaves (x ∷ spelt) [] batched apart p m g seen gathers lawful each none = absurd (omega (arith, each))
all_uncut Leaves (Err at ∷ spelt) (one ∷ answers) batched apart p m g seen gathers lawful each none =
    all_uncut Leaves spelt answers batched batched p m g seen gathers (subst (λ (h : Option Gathering). SeenAlone Leaves p m h spelt answers seen) (none_before batched p g gathers) lawful.1) (omega (arith, each)) (omega (arith, none))
all_uncut Leaves (Ok stmt ∷ spelt) (one ∷ answers) batched apart p m g [] gathers lawful each none = absurd lawful
all_uncut Leaves (Ok stmt ∷ spelt) (one ∷ answers) batched apart p m g (x ∷ seen) gathers lawful each none = (
  lawful.0,
  lawful.1,
  not_cut (is_cut x.seen.end) one.outcome (λ cut. lawful.2.1.0 (cut_fails (gathered_if apart g) x.seen.end cut)) (omega (arith, none)),
  lawful.2.3,
  all_uncut Leaves spelt answers batched false (next p x.skeleton x.seen) (m + length (script p x.skeleton x.seen)) (gathering_after p m (gathered_if apart g) stmt x.seen.end) seen
      (gathers_on batched p m g (record { stmt = stmt; apart = apart }) x.skeleton x.seen gathers) lawful.3 (omega (arith, each)) (omega (arith, none)),
)

none_is : (o : Option ℕ) → is_some o ≡ false → o ≡ None
none_is None is = refl
none_is (Some n) is = absurd (cc is)

pub gathers_none : (p : Public) → GathersIf (is_some p.batch) p None
gathers_none p is = (none_is p.batch is, refl)

-- a run that came to its end answered all that it reached
spell_few : (texts : List (List ℕ)) (spelt : List Spelt) → SpellFirst texts spelt → length spelt ≤ length texts
unfolding SpellFirst
spell_few [] [] spells = omega arith
spell_few (text ∷ texts) [] spells = omega arith
spell_few [] (x ∷ spelt) spells = absurd spells
spell_few (text ∷ texts) (x ∷ spelt) spells = let few = spell_few texts spelt spells.1 in omega (arith, few)

no_more : (base : Base) (status : ℕ) (ending : Ending) (Takes : Type 0) (max : ℕ) (taken : List ℕ) (at_end : Bool) (more : List (List ℕ)) (answers : List Answer) (part : List ℕ) (old new : Outside)
    → status ≡ status_of ending → status ≤ 1 → Because base ending Takes max taken at_end more answers part old new → more ≡ []
no_more base status Usage Takes max taken at_end more answers part old new is few why = absurd (omega (arith, is, few))
no_more base status BadKey Takes max taken at_end more answers part old new is few why = absurd (omega (arith, is, few))
no_more base status (Ran (Ok flag)) Takes max taken at_end more answers part old new is few why = why.2.all.no_more
no_more base status (Ran (Err (Stops.Tampered q x))) Takes max taken at_end more answers part old new is few why = absurd (omega (arith, is, few))
no_more base status (Ran (Err Stops.SourceFault)) Takes max taken at_end more answers part old new is few why = absurd (omega (arith, is, few))
no_more base status (Ran (Err Stops.SinkFault)) Takes max taken at_end more answers part old new is few why = absurd (omega (arith, is, few))
no_more base status (Ran (Err Stops.NoMemory)) Takes max taken at_end more answers part old new is few why = absurd (omega (arith, is, few))
no_more base status (Ran (Err Stops.InputLimit)) Takes max taken at_end more answers part old new is few why = absurd (omega (arith, is, few))
no_more base status (Ran (Err Stops.StoreFault)) Takes max taken at_end more answers part old new is few why = absurd (omega (arith, is, few))
no_more base status (Ran (Err Stops.StashFull)) Takes max taken at_end more answers part old new is few why = absurd (omega (arith, is, few))
no_more base status (Ran (Err Stops.KeeperFault)) Takes max taken at_end more answers part old new is few why = absurd (omega (arith, is, few))

pub answered_all : {base : Base} {keys : List ℕ → KeySet} {Takes : Type 0} {tracing : Bool} {old new : Outside} {report : Report} (a : Headline base keys Takes tracing old new report) → report.status ≤ 1
    → length a.story.answers ≡ length a.story.spelt
answered_all {base} {Takes = Takes} {old = old} {new = new} {report = report} a few =
    let none : a.story.more ≡ [] = no_more base report.status a.ending Takes (limit_of base.settings) a.taken a.ended a.story.more a.story.answers a.story.part old new a.status.status few a.status.because in
    let most : length a.story.spelt ≤ length a.story.served =
    subst (λ (ts : List (List ℕ)). length a.story.spelt ≤ length ts) (ap (λ (ts : List (List ℕ)). a.story.served ++ ts) none ∙ append-nil a.story.served) (spell_few (a.story.served ++ a.story.more) a.story.spelt a.statements.spells) in
    omega (arith, most, a.statements.reached, a.statements.each)

module _ (one : SomeRun) (alone : FliesNone one.base) (well : EndsWell one.report.status (failures_of one)) where
  pub run_uncut : AreUncut one.base.public one.base.count None (stated_of one) (seen_by one)
  run_uncut =
      all_uncut _ one.run.story.spelt one.run.story.answers (is_some one.base.public.batch) false one.base.public one.base.count None (seen_by one) (gathers_none one.base.public)
      (run_alone one alone).lawful (answered_all one.run well.ended) well.none

-- ---- none is a SELECT of rows, or results are padded
neither : (a b : Bool) → (a || b) ≡ false → (a ≡ false) × (b ≡ false)
neither true b is = absurd (cc is)
neither false b is = (refl, is)

abbrev AreUncounted : Public → List Stated → Type 0
AreUncounted p ts = (any_counted ts ≡ false) ⊎ IsSome p.pad

first_uncounted : (p : Public) (a : Stated) (ps : List Stated) → AreUncounted p (a ∷ ps) → (selects_rows a.stmt ≡ false) ⊎ IsSome p.pad
unfolding any_counted
first_uncounted p a ps none = elim none [ inl none ↦ inl (neither (selects_rows a.stmt) (any_counted ps) none).0 | inr padded ↦ inr padded ]

-- after any statement results are still padded
rest_uncounted : (p : Public) (a : Stated) (ps : List Stated) (x : Entry) → AreUncounted p (a ∷ ps) → AreUncounted (next p x.skeleton x.seen) ps
unfolding any_counted
rest_uncounted p a ps x none = elim none [ inl none ↦ inl (neither (selects_rows a.stmt) (any_counted ps) none).1 | inr padded ↦ inr padded ]

-- lists of statements that are alike show alike
shows : (p : Public) (m : ℕ) (g : Option Gathering) (ps : List Stated) (xs : List Entry) (qs : List Stated) (ys : List Entry) → AreUncut p m g ps xs → AreUncut p m g qs ys → AreUncounted p ps → Alike p m g ps qs → ShowAlike p m ps xs qs ys
unfolding AreUncut Alike ShowAlike
shows p m g [] xs [] ys a b none alike = tt
shows p m g [] xs (b ∷ qs) ys one two none alike = absurd alike
shows p m g (a ∷ ps) xs [] ys one two none alike = absurd alike
shows p m g (a ∷ ps) [] (b ∷ qs) ys one two none alike = absurd one
shows p m g (a ∷ ps) (x ∷ xs) (b ∷ qs) [] one two none alike = absurd two
shows p m g (a ∷ ps) (x ∷ xs) (b ∷ qs) (y ∷ ys) one two none alike =
    let plain : IsPlain p a.stmt = (alike.1, first_uncounted p a ps none) in
    let here : x.seen ≡ plainly_at p m g a = shows_plainly p m (gathered_at g a) a.stmt x.seen one.1 one.3 plain one.2 in
    let there : y.seen ≡ plainly_at p m g b = shows_plainly p m (gathered_at g b) b.stmt y.seen two.1 two.3 (plain_too p a.stmt b.stmt alike.0 plain) two.2 in
    let same : y.seen ≡ x.seen = there ∙ sym (plainly_alike p m g a b alike.0 alike.2 alike.3) ∙ sym here in
    let first : x ≡ record { skeleton = skeleton a.stmt; seen = plainly_at p m g a } = λ i. record { skeleton = one.0 i; seen = here i } in
    let sk : y.skeleton ≡ x.skeleton = two.0 ∙ sym alike.0 ∙ sym one.0 in
    let behind = subst (λ (h : Option Gathering). AreUncut (next p y.skeleton y.seen) (m + length (script p y.skeleton y.seen)) h qs ys) (sym (then_alike p m g a b alike.0 alike.2 alike.3 y.seen.end)) two.4 in
    let rest : AreUncut (next p x.skeleton x.seen) (m + length (script p x.skeleton x.seen)) (gathered_behind p m g a x.seen.end) qs ys =
    subst (λ (e : Entry). AreUncut (next p e.skeleton e.seen) (m + length (script p e.skeleton e.seen)) (gathered_behind p m g a e.seen.end) qs ys) (λ i. record { skeleton = sk i; seen = same i }) behind in (
      alike.0,
      alike.2,
      alike.3,
      (λ more. sym same),
      shows (next p x.skeleton x.seen) (m + length (script p x.skeleton x.seen)) (gathered_behind p m g a x.seen.end) ps xs qs ys one.4 rest (rest_uncounted p a ps x none)
          (subst (λ (e : Entry). Alike (next p e.skeleton e.seen) (m + length (script p e.skeleton e.seen)) (gathered_behind p m g a e.seen.end) ps qs) (sym first) alike.4),
    )

module _ (a b : SomeRun) (alone : FliesNone a.base) (alone_too : FliesNone b.base) (same : GoOnFromOne a b) (well : EndsWell a.report.status (failures_of a)) (well_too : EndsWell b.report.status (failures_of b)) where
  abbrev p : Public
  p = a.base.public

  abbrev m : ℕ
  m = a.base.count

  there : AreUncut p m None (stated_of b) (seen_by b)
  there =
      subst (λ (r : Public). AreUncut r m None (stated_of b) (seen_by b)) (sym same.public)
      (subst (λ (n : ℕ). AreUncut b.base.public n None (stated_of b) (seen_by b)) (sym same.count) (run_uncut b alone_too well_too))

  pub show_the_same : ShowAlike p m (stated_of a) (seen_by a) (stated_of b) (seen_by b) → (seen_by a ≡ seen_by b) × (asked_by a ≡ asked_by b)
  show_the_same alike =
      let seen = same_seen p m None (stated_of a) (seen_by a) (stated_of b) (seen_by b) (run_uncut a alone well) there alike in
      (seen, (run_alone a alone).asked ∙ (λ i. same.before i ++ trace (same.public i) (seen i)) ∙ sym (run_alone b alone_too).asked)

  asks_alike : AreUncounted p (stated_of a) → Alike p m None (stated_of a) (stated_of b) → asked_by a ≡ asked_by b
  asks_alike none alike = (show_the_same (shows p m None (stated_of a) (seen_by a) (stated_of b) (seen_by b) (run_uncut a alone well) there none alike)).1

  pub ask_the_same : any_counted (stated_of a) ≡ false → Alike p m None (stated_of a) (stated_of b) → asked_by a ≡ asked_by b
  ask_the_same none = asks_alike (inl none)

  pub padded_ask_the_same : IsSome p.pad → Alike p m None (stated_of a) (stated_of b) → asked_by a ≡ asked_by b
  padded_ask_the_same padded = asks_alike (inr padded)
