-- What a statement on an index means, beside its access in the engine.
use Rattle.ob_tables.proofs.Words.{Access, access_script, Agrees, ap, append_assoc, AreDraws, AreHeld, Bool, changed_at, count_of, draw_at, DrawPlace, Draws, Engine, Global, Got, got_in, got_outcome, Heading, headings, headings_of, HoldsTable, Index, index_of, IsAccessed, IsDone, IsHonest, IsTrue, Keyed, length, FalseRead, IsStoredAs, List, MatchResult, None, none, Ok, OramErr, Outcome, ReadsTrue, refusal_now, Result, RevState, RoomState, seen, seen_cut, seen_whole, settle, skeleton, slice_set, Stmt, StoreState, subst, sym, Tables, Vault, Vec, went_rests, World, world_of, ℕ, [], ◌++◌, ◌-◌, ◌∙◌, ◌≡◌}
use Rattle.ob_base.specs.declared.schema.Shape.{Shape}
use Rattle.ob_base.specs.declared.schema.Table.{Table}
use Rattle.ob_store.specs.Calls.{ChangesNothing}
use Rattle.ob_vault.specs.Places.{at}
use Rattle.ob_vault.specs.Tied.{ReadsIn}
use Rattle.ob_vault.proofs.WorldSteps.{reads_on}
use Rattle.ob_oram.proofs.Lasting.{lies_kept}
use Rattle.ob_mean.specs.Verdict.{next_draw}
use Rattle.ob_verdict.proofs.InPlaceProof.{keeps_in_place}
use Rattle.ob_keyed.specs.Meant.{MeansKeyed, StopsKeyed, ToldKeyed}
use Rattle.ob_keyed.specs.Serving.{ServesKeyed}
use Rattle.ob_keyed.proofs.Told.{keyed_means}
use Rattle.ob_tables.specs.Telling.{Represents, SeenCut, Told, meant_script}
use Rattle.ob_tables.proofs.HeldLemmas.{Stood, held_headings, stood_at}
use Rattle.ob_tables.proofs.IndexHeld.{held_accessed}
use Rattle.ob_tables.proofs.IndexRuns.{all, asked_ok, draw_is, got_answered, of_x, on, served}
use Rattle.ob_tables.proofs.RunLemmas.{engine_left, unsaved}
use Rattle.ob_script.proofs.SavedParts.{run_is}
use Rattle.ob_tables.proofs.ToldLemmas.{told_whole}

module _ {R : Type 0} (state : R → RevState) (stmt : Stmt) (old : Engine R) (s s1 : StoreState) (v : Vault R) (room : RoomState) (t : StoreState) (k draw : ℕ) (keyed : Keyed) (indexes : Vec Index Global) (draws : DrawPlace)
    (agrees : Agrees state old s) (rests : ChangesNothing s s1) (now : refusal_now old.public (count_of old s) stmt ≡ None)
    (accessed : IsAccessed stmt k old.public.tables old.indexes.items)
    (done : IsDone stmt k draw keyed old.indexes.items indexes.items old.room room (at state old.vault s1) (at state v t))
    (drew : draw ≡ draw_at old.draws.key old.draws.next) where
  abbrev before : World
  before = at state old.vault s1

  abbrev after : World
  after = at state v t

  abbrev x : Index
  x = done.before

  abbrev y : Index
  y = done.after

  abbrev table : Table
  table = accessed.is.table

  serves_next : (d : Draws) → draw ≡ next_draw d → ServesKeyed stmt x y (next_draw d) keyed before after
  serves_next d is =
      subst (λ (n : ℕ). ServesKeyed stmt x y n keyed before after) is (served state stmt old s s1 v room t k draw keyed indexes draws agrees rests now accessed done)

  honest : (tables : Tables) → ReadsTrue state old s t tables → IsHonest before after
  honest tables reads = record { tells = subst (λ (b : Bool). IsTrue b) (sym rests.tells) reads.tells; nolie = reads.nolie }

  module _ (tables : Tables) (held : Represents state old s tables) where
    pub stood : Stood old.public.pack old.indexes.items accessed.name table tables (world_of state old s)
    stood =
        stood_at old.public.pack old.indexes.items accessed.name old.public.tables tables accessed.place table (world_of state old s) agrees.tables.names held.held
        accessed.is.here.get accessed.is.here.named

    lies_old : IsStoredAs x (index_of stood.table.heading stood.table.held) (world_of state old s)
    lies_old =
        let of = of_x state stmt old s s1 v room t k draw keyed indexes draws agrees rests now accessed done in
        (subst (λ (shape : Shape). HoldsTable shape old.public.pack old.indexes.items table stood.table (world_of state old s)) of.indexed stood.holds) k x done.get of.tree

    pub lies_before : IsStoredAs x (index_of stood.table.heading stood.table.held) before
    lies_before = record {
      lies = lies_kept none (world_of state old s) before (went_rests _ s s1 rests none agrees.ready).lasts x (λ off. off) (λ off. off) (index_of stood.table.heading stood.table.held) lies_old.lies;
      stands = lies_old.stands;
    }

    headed : headings tables ≡ headings_of old.public.tables
    headed = held_headings old.public.pack old.indexes.items old.public.tables tables (world_of state old s) held.held

    pub meant_by : (d : Draws) → draw ≡ next_draw d → MeansKeyed d old.public (count_of old s) tables stmt stood.table x y keyed before after
    meant_by d is =
        keyed_means d old.public (count_of old s) tables stmt stood.table x y keyed before after
        (on state stmt old s s1 v room t k draw keyed indexes draws agrees rests now accessed done)
        headed held.in_place stood.found lies_before (serves_next d is)

    pub meant : (d : Draws) → AreDraws old d → MeansKeyed d old.public (count_of old s) tables stmt stood.table x y keyed before after
    meant d of = meant_by d (draw_is state stmt old s s1 v room t k draw keyed indexes draws agrees rests now accessed done drew d of)

  -- ---- it went to its end
  module _ (got : Got) (answers : keyed.result ≡ Ok got) where
    abbrev outcome : Outcome
    outcome = got_outcome stmt (got_in got)

    abbrev new : Engine R
    new = engine_left old indexes draws v room old.public.tables (seen_whole keyed.leaf) old.ended

    pub told_by : (tables : Tables) (d : Draws) → draw ≡ next_draw d → (reads : ReadsTrue state old s t tables)
        → ToldKeyed d old.public (count_of old s) tables stmt (stood tables reads.held).table y got after
    told_by tables d is reads =
        subst (λ (r : Result Got OramErr). MatchResult r (λ g. ToldKeyed d old.public (count_of old s) tables stmt (stood tables reads.held).table y g after) (λ e. StopsKeyed d old.public (count_of old s) tables stmt e))
        answers ((meant_by tables reads.held d is).told (honest tables reads))

    pub told_keyed : (tables : Tables) (d : Draws) → AreDraws old d → (reads : ReadsTrue state old s t tables)
        → ToldKeyed d old.public (count_of old s) tables stmt (stood tables reads.held).table y got after
    told_keyed tables d of reads = told_by tables d (draw_is state stmt old s s1 v room t k draw keyed indexes draws agrees rests now accessed done drew d of) reads

    held_after : (tables : Tables) (d : Draws) (of : AreDraws old d) (reads : ReadsTrue state old s t tables)
        → AreHeld old.public.pack indexes.items old.public.tables (settle d old.public (count_of old s) tables stmt) after
    held_after tables d of reads =
        let told = told_keyed tables d of reads in
        let stood_is = stood tables reads.held in
        let kept = asked_ok state stmt old s s1 v room t k draw keyed indexes draws agrees rests now accessed done got answers in
        let went = all state stmt old s s1 v room t k draw keyed indexes draws agrees rests now accessed done got answers in
        let is_of = of_x state stmt old s s1 v room t k draw keyed indexes draws agrees rests now accessed done in
        let name_is : stood_is.table.heading.name ≡ accessed.name = ap (λ (h : Heading). h.name) stood_is.heading ∙ accessed.is.here.named in
        let set_held : AreHeld old.public.pack (slice_set old.indexes.items k y) old.public.tables (changed_at accessed.name (λ held. told.after) tables) after =
        held_accessed old.public.pack k old.public.tables old.closing old.indexes.items x y (world_of state old s) after went.lasts agrees.tables done.get (ap (λ (i : Index). i.tree) kept.same)
        accessed.name told.after tables accessed.place table agrees.tables.names reads.held.held accessed.is.here.get accessed.is.here.named is_of.indexed (sym is_of.tree)
        (λ h same. subst (λ (g : Heading). IsStoredAs y (index_of g told.after) after) (stood_is.heading ∙ sym same) told.lies) in
        subst (λ (is : List Index). AreHeld old.public.pack is old.public.tables (settle d old.public (count_of old s) tables stmt) after) (sym done.set)
        (subst (λ (ts : Tables). AreHeld old.public.pack (slice_set old.indexes.items k y) old.public.tables ts after) (sym told.settled)
        (subst (λ (name : List ℕ). AreHeld old.public.pack (slice_set old.indexes.items k y) old.public.tables (changed_at name (λ held. told.after) tables) after) (sym name_is) set_held))

    pub told_access : (tables : Tables) (d : Draws) → AreDraws old d → ReadsTrue state old s t tables → Told state stmt [] d tables outcome old s new t
    told_access tables d of reads = told_whole outcome _ _ (got_answered stmt (got_in got)) (record {
      answer = sym (told_keyed tables d of reads).outcome;
      seen = sym (meant tables reads.held d of).shown;
      held = record { held = held_after tables d of reads; in_place = keeps_in_place d old.public (count_of old s) tables stmt reads.held.in_place };
    })

  -- ---- what is seen and read until a stop
  pub seen_access_cut : (failed : Bool) (n : ℕ) → n ≡ length t.asked - length s.asked → (left : Engine R) → left.seen ≡ seen_cut old.public.stash keyed.leaf n → (tables : Tables) (d : Draws) → AreDraws old d → Represents state old s tables
      → SeenCut failed d stmt tables old s left t
  seen_access_cut failed n count left seen_is tables d of held =
      seen_is ∙ ap (λ (m : ℕ). seen_cut old.public.stash keyed.leaf m) count ∙ sym ((meant tables held d of).cut failed (length t.asked - length s.asked))

  -- its reads are a first part of the script of the meaning
  pub begun_access : (part rest : List Access) → part ++ rest ≡ access_script x keyed.leaf → t.asked ≡ s.asked ++ part → (tables : Tables) (d : Draws) → AreDraws old d → ReadsTrue state old s s tables → (lie : FalseRead)
      → ReadsIn lie t.asked → ReadsIn lie (s.asked ++ meant_script d old.public (count_of old s) tables stmt)
  begun_access part rest split asked tables d of reads lie read =
      reads_on lie t.asked rest (s.asked ++ meant_script d old.public (count_of old s) tables stmt)
      (ap (λ (l : List Access). s.asked ++ l) (run_is old.public (skeleton stmt) (seen d old.public (count_of old s) tables stmt) (unsaved state old s k x agrees done.get) ∙ (meant tables reads.held d of).asks ∙ sym split) ∙ sym (append_assoc s.asked part rest) ∙ ap (λ (l : List Access). l ++ rest) (sym asked)) read
