-- Over all runs that save their tables no two writes are under one salt and one number.
use Rattle.ob_headline.proofs.Words.{Access, Accesses, Answer, ap, AreFlat, arith, at_of, Base, Begun, Bool, cases_lt, Closed, Closing, closing_named, Config, each, Ending, FlightSettings, flying, Fresh, get_back, get_front, headings_of, inl, inr, InUse, IsSealed, KeeperState, KeptEnding, KeySet, length, List, Listed, map, Mark, None, Option, Outside, read_at, refl, Report, RunSaved, Saved, slice_get, Some, Start, StoreState, Story, subst, suc, sym, Table, Text, trace_of, Write, zero, ℕ, [], ◌++◌, ◌+◌, ◌-◌, ◌<◌, ◌∙◌, ◌∷◌, ◌≡◌}
use Rattle.ob_headline.proofs.AloneLemmas.{alone}
use Rattle.ob_headline.proofs.BegunLemmas.{begun_flying, begun_fresh, none_given}
use Rattle.ob_headline.proofs.FlightWrites.{run_writes}
use Rattle.ob_headline.proofs.IndexWrites.{Onto, onto_at, onto_both, onto_each}
use Rattle.ob_headline.proofs.LeftLemmas.{shows_all}
use Rattle.ob_headline.specs.KeptHeadline.{PassesBoth}
use Rattle.ob_headline.specs.SavedHeadline.{SessionSaved}
use Rattle.ob_headline.specs.SavedRuns.{AnySaved, HaveOwnSalts, SavedRun, Seals, SealsAlone, WritesAlone, saved_salt}
use Rattle.ob_headline.specs.Saving.{BeginsSaved, ReopensSaved}
use Rattle.ob_headline.specs.Shown.{IsBegun, OfIndex, Wrote, number_at}
use Rattle.ob_reopen.specs.Closings.{open_script, open_table, read_script}
use Rattle.ob_reopen.specs.Reopened.{opening_script}
use Rattle.ob_reopen.specs.Saved.{salted_of, salted_regions}
use Rattle.ob_seal.proofs.Salts.{own_pair}
use Rattle.ob_seal.proofs.Spans.{of_one}
use Rattle.ob_seal.specs.KeySet.{pair_at}
use Rattle.ob_seal.specs.Sealed.{AreBefore, keys_salted}
use Rattle.ob_seal.specs.declared.At.{At}
use Rattle.ob_seal.specs.declared.Salted.{Salted}
use Rattle.ob_seal.specs.declared.pairs.Pair.{Pair}

-- ---- what a run begins with
reopened_begun : (closed : Option (List ℕ)) (closing : Closing) (config : Config) (secret salt : List ℕ) (keys : KeySet) (base : Base) (old new : StoreState) → ReopensSaved closed closing config secret salt keys base old new → IsBegun base
reopened_begun closed closing config secret salt keys base old new opens =
    subst IsBegun (sym opens.is) (record { next = refl; fresh = λ q x own. none_given closing opens.listed (λ i t is. (opens.catalogue.are.each i t is).listed.region_most) q x own })

pub begun_saved : (mark : Mark) (config : Config) (secret salt : List ℕ) (keys : KeySet) (base : Base) (old new : StoreState) → BeginsSaved mark config secret salt keys base old new → IsBegun base
begun_saved Fresh config secret salt keys base old new begins = subst IsBegun (sym begins.0.is) (begun_fresh (Some config))
begun_saved InUse config secret salt keys base old new begins = absurd begins
begun_saved (Closed region blocks number pack) config secret salt keys base old new begins = reopened_begun None (closing_named region blocks number pack) config secret salt keys base old new begins.1
begun_saved Begun config secret salt keys base old new begins = subst IsBegun (sym begins.0.is) (begun_fresh (Some config))
begun_saved (Saved region blocks number pack closed check) config secret salt keys base old new begins = reopened_begun (Some closed) (closing_named region blocks number pack) config secret salt keys base old new begins.2

-- ---- the keys of the regions that it makes are those of its salt
pub salted_own : (secret salt : List ℕ) (earlier : List Salted) (keys : KeySet) (at : At) → keys ≡ keys_salted secret salt earlier → AreBefore at.region earlier → (pair_at keys at).salt ≡ Some salt
salted_own secret salt earlier keys at is before =
    ap (λ (k : KeySet). (pair_at k at).salt) is ∙ ap (λ (p : Pair). p.salt) (of_one (keys_salted secret salt earlier) at tt ∙ own_pair secret salt earlier at.region before)

all_before : (listed : List Listed) (q : ℕ) → ((i : ℕ) (t : Listed) → slice_get listed i ≡ Some t → t.table.region < q) → AreBefore q (map salted_of listed)
all_before [] q each = tt
all_before (t ∷ ts) q each = (each zero t refl, all_before ts q (λ i u is. each (suc i) u is))

reopened_own : (closed : Option (List ℕ)) (closing : Closing) (config : Config) (secret salt : List ℕ) (keys : KeySet) (base : Base) (old new : StoreState) → ReopensSaved closed closing config secret salt keys base old new
    → (at : At) → base.start.region < at.region → (pair_at keys at).salt ≡ Some salt
reopened_own closed closing config secret salt keys base old new opens at own =
    let start : base.start.region ≡ closing.region = ap (λ (b : Base). b.start.region) opens.is in
    let above : closing.region < at.region = omega (arith, start, own) in
    salted_own secret salt (salted_regions closed closing opens.listed) keys at opens.keyed
    (above, all_before opens.listed at.region (λ i t is. let most = (opens.catalogue.are.each i t is).listed.region_most in omega (arith, most, above)))

own_saved : (mark : Mark) (config : Config) (secret salt : List ℕ) (keys : KeySet) (base : Base) (old new : StoreState) → BeginsSaved mark config secret salt keys base old new → (at : At) → base.start.region < at.region → (pair_at keys at).salt ≡ Some salt
own_saved Fresh config secret salt keys base old new begins at own = salted_own secret salt [] keys at begins.0.keyed tt
own_saved InUse config secret salt keys base old new begins at own = absurd begins
own_saved (Closed region blocks number pack) config secret salt keys base old new begins at own = reopened_own None (closing_named region blocks number pack) config secret salt keys base old new begins.1 at own
own_saved Begun config secret salt keys base old new begins at own = salted_own secret salt [] keys at begins.0.keyed tt
own_saved (Saved region blocks number pack closed check) config secret salt keys base old new begins at own = reopened_own (Some closed) (closing_named region blocks number pack) config secret salt keys base old new begins.2 at own

-- ---- nothing is written while tables are opened
abbrev Silent : List Access → Type 0
Silent asked = Onto (λ q. ⊥) asked

silent_tables : (pack : ℕ) (listed : List Listed) → Silent (open_script pack listed)
silent_tables pack [] = tt
silent_tables pack (t ∷ ts) = onto_both (λ q. ⊥) (open_table pack t) (open_script pack ts) tt (silent_tables pack ts)

silent_opening : (closing : Closing) (listed : List Listed) → Silent (opening_script closing listed)
silent_opening closing listed = onto_both (λ q. ⊥) (read_script closing) (open_script closing.pack listed) (onto_each (λ q. ⊥) closing.blocks (read_at closing.region) (λ i. tt)) (silent_tables closing.pack listed)

silent_saved : (mark : Mark) (config : Config) (secret salt : List ℕ) (keys : KeySet) (base : Base) (old new : StoreState) → BeginsSaved mark config secret salt keys base old new → Silent base.before
silent_saved Fresh config secret salt keys base old new begins = subst (λ (b : Base). Silent b.before) (sym begins.0.is) tt
silent_saved InUse config secret salt keys base old new begins = absurd begins
silent_saved (Closed region blocks number pack) config secret salt keys base old new begins = subst (λ (b : Base). Silent b.before) (sym begins.1.is) (silent_opening (closing_named region blocks number pack) begins.1.listed)
silent_saved Begun config secret salt keys base old new begins = subst (λ (b : Base). Silent b.before) (sym begins.0.is) tt
silent_saved (Saved region blocks number pack closed check) config secret salt keys base old new begins = subst (λ (b : Base). Silent b.before) (sym begins.2.is) (silent_opening (closing_named region blocks number pack) begins.2.listed)

-- ---- statements write to regions that the run makes, since none of their tables is an index
none_indexed : (ts : List Table) (q : ℕ) → AreFlat (headings_of ts) → OfIndex ts q → ⊥
none_indexed [] q flat of = of
none_indexed (t ∷ ts) q flat of = elim of [
  | inl here ↦ let indexed = here.0 in let is = flat.0 in absurd (cc (is, indexed))
  | inr rest ↦ none_indexed ts q flat.1 rest
]

writes_own : (base : Base) (keys : KeySet) (ending : Ending) (story : Story) (old new : StoreState) → IsBegun base → Silent base.before → Accesses base keys ending story old new → (i q x : ℕ) → Wrote new.asked i q x → base.start.region < q
writes_own base keys ending story old new begun silent accesses i q x wrote =
    let all = trace_of base story.entries in
    let there : slice_get (base.before ++ all) i ≡ Some (Write q x) = ap (λ (l : List Access). slice_get l i) (sym accesses.asked) ∙ wrote.is in
    elim (cases_lt i (length base.before)) [
      | inl less ↦ absurd (onto_at (λ r. ⊥) base.before i q x silent (sym (get_front base.before all i less) ∙ there))
      | inr past ↦ elim (run_writes base keys ending story old new accesses (i - length base.before) q x (sym (get_back base.before all i past) ∙ there)) [
        | inl above ↦ let next = begun.next in omega (arith, next, above)
        | inr of ↦ absurd (none_indexed base.public.tables q accesses.flat of)
      ]
    ]

-- ---- one run
module _ {settings : Option Config} {flight : Option FlightSettings} {Takes : Type 0} {tracing : Bool} {old new : Outside} {k0 k1 : KeeperState} {ending : KeptEnding} {answers : List Answer} {report : Report} (run : SessionSaved settings flight Takes tracing old new k0 k1 ending answers report) where
  begun : IsBegun run.base
  begun = begun_saved run.began.mark run.config run.secret run.salt run.keys run.base old.store run.opened run.began.begins

  pub writes_alone : WritesAlone run
  writes_alone = record {
    own = λ i q x wrote.
        writes_own (flying flight run.base) run.keys run.session.ending run.session.story run.opened new.store (begun_flying flight run.base begun)
        (silent_saved run.began.mark run.config run.secret run.salt run.keys run.base old.store run.opened run.began.begins) run.session.accesses i q x wrote;
    salted = λ q x n own. own_saved run.began.mark run.config run.secret run.salt run.keys run.base old.store run.opened run.began.begins (at_of q x n) own;
    shown = λ tells.
        let both : IsSealed (PassesBoth run.base.public.pack) run.keys run.base.start (run.base.start.region + 1) run.opened new.store = record {
          each = λ q x block own live last good passes. (run.session.sealing.sealed tells).each q x block own live last good (passes.0, λ saves. passes.1);
        } in
        shows_all (PassesBoth run.base.public.pack) run.keys run.base.start run.opened new.store begun.fresh both;
  }

-- two writes under one number are one
pub one_number : (start : Start) (asked : List Access) (k l q r x y : ℕ) → Wrote asked k q x → Wrote asked l r y → number_at start asked k ≡ number_at start asked l → k ≡ l
one_number start asked k l q r x y first second same = elim (cases_lt k l) [
  | inl less ↦ let more = (alone start asked k q x first.is).behind l r y second less in absurd (omega (arith, more, same))
  | inr past ↦ elim (cases_lt l k) [
    | inl less ↦ let more = (alone start asked l r y second.is).behind k q x first less in absurd (omega (arith, more, same))
    | inr at ↦ omega (arith, past, at)
  ]
]

pub seals_once : {settings : Option Config} {flight : Option FlightSettings} {Takes : Type 0} {tracing : Bool} {old new : Outside} {k0 k1 : KeeperState} {ending : KeptEnding} {answers : List Answer} {report : Report}
    (ran : RunSaved settings flight Takes tracing old new k0 k1 ending answers report) (k l : ℕ) (salt : Option (List ℕ)) (number : ℕ) → Seals ran k salt number → Seals ran l salt number → k ≡ l
seals_once (inl run) k l salt number first second = absurd first
seals_once (inr (inl run)) k l salt number first second = absurd first
seals_once {new = new} (inr (inr run)) k l salt number first second =
    one_number run.base.start new.store.asked k l first.region second.region first.place second.place first.wrote second.wrote (sym first.numbered ∙ second.numbered)

-- a block is sealed under the salt of its run
pub record HasSalt (own salt : Option (List ℕ)) : Type 0 where
  pub bytes : List ℕ
  pub is : own ≡ Some bytes
  pub same : salt ≡ Some bytes

pub seals_salt : {settings : Option Config} {flight : Option FlightSettings} {Takes : Type 0} {tracing : Bool} {old new : Outside} {k0 k1 : KeeperState} {ending : KeptEnding} {answers : List Answer} {report : Report}
    (ran : RunSaved settings flight Takes tracing old new k0 k1 ending answers report) (k : ℕ) (salt : Option (List ℕ)) (number : ℕ) → Seals ran k salt number → HasSalt (saved_salt ran) salt
seals_salt (inl run) k salt number seals = absurd seals
seals_salt (inr (inl run)) k salt number seals = absurd seals
seals_salt (inr (inr run)) k salt number seals =
    let alone = writes_alone run in
    record { bytes = run.salt; is = run.drew; same = seals.salted ∙ alone.salted seals.region seals.place number (alone.own k seals.region seals.place seals.wrote) }

pub seals_alone : (words : List Text) (old new : Outside) (k0 k1 : KeeperState) (report : Report) (run : SavedRun words old new k0 k1 report) → SealsAlone run.ran
seals_alone words old new k0 k1 report run = go run.ran
  where
    go : {settings : Option Config} {flight : Option FlightSettings} {Takes : Type 0} {tracing : Bool} {a b : Outside} {x y : KeeperState} {ending : KeptEnding} {answers : List Answer} {r : Report} (ran : RunSaved settings flight Takes tracing a b x y ending answers r) → SealsAlone ran
    go (inl unkeyed) = tt
    go (inr (inl unbegun)) = tt
    go (inr (inr session)) = writes_alone session

-- ---- all of them
pub seals_apart : (runs : List AnySaved) → HaveOwnSalts runs → (i j k l : ℕ) (a b : AnySaved) (salt : Option (List ℕ)) (number : ℕ) → slice_get runs i ≡ Some a → slice_get runs j ≡ Some b
    → Seals a.one.run.ran k salt number → Seals b.one.run.ran l salt number → (i ≡ j) × (k ≡ l)
seals_apart runs salts i j k l a b salt number first second here there =
    let one = seals_salt a.one.run.ran k salt number here in
    let two = seals_salt b.one.run.ran l salt number there in
    let bytes : ◌≡◌ {A = Option (List ℕ)} (Some two.bytes) (Some one.bytes) = sym two.same ∙ one.same in
    let run : i ≡ j = salts.apart i j a b one.bytes first second one.is (two.is ∙ bytes) in
    let same : ◌≡◌ {A = Option AnySaved} (Some b) (Some a) = sym second ∙ ap (slice_get runs) (sym run) ∙ first in
    let is : b ≡ a = cc same in
    (run, seals_once a.one.run.ran k l salt number here (subst (λ (r : AnySaved). Seals r.one.run.ran l salt number) is there))
