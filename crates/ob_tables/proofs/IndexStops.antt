-- A statement on an index that was stopped, and what that means.
use Rattle.ob_tables.proofs.Words.{Agrees, ap, AreDraws, arith, Bool, Untampered, count_of, draw_at, DrawPlace, Draws, Engine, Err, Global, Got, Heading, height_of, held_if, Index, IsAccessed, IsDone, IsHonest, IsTrue, Keyed, length, MatchResult, nat_lt, nat_tests, None, none, Option, option_map_or, OramErr, refl, refusal_now, Result, RevState, RoomState, RunCause, seen_cut, Some, Stmt, stop_of, StoreState, subst, sym, Tables, true, Vault, Vec, went_rests, World, world_of, ℕ, ◌+◌, ◌-◌, ◌<◌, ◌∙◌, ◌≡◌, ◌≤◌}
use Rattle.ob_base.specs.Indexes.{path_blocks}
use Rattle.ob_base.proofs.IndexLemmas.{height_same}
use Rattle.ob_store.specs.Calls.{ChangesNothing}
use Rattle.ob_vault.specs.Places.{at}
use Rattle.ob_oram.specs.declared.fault.OramErr.TheVariants as OramErrs
use Rattle.ob_oram.specs.Short.{AsksReads}
use Rattle.ob_mean.specs.Verdict.{Accessed, is_full, next_draw}
use Rattle.ob_keyed.specs.Meant.{StopsKeyed, ToldKeyed}
use Rattle.ob_keyed.specs.Serving.{Overfills}
use Rattle.ob_keyed.proofs.Told.{finds_access}
use Rattle.ob_tables.specs.declared.stop.RunStop.TheVariants as Stops
use Rattle.ob_tables.specs.Indexed.{FillsStash}
use Rattle.ob_tables.specs.Telling.{ReadsTrueUntil, Represents, StopsFull, access_reads}
use Rattle.ob_tables.proofs.EmitLemmas.{unfit_none}
use Rattle.ob_tables.proofs.HeldLemmas.{held_headings}
use Rattle.ob_tables.proofs.IndexMeans.{meant, stood}
use Rattle.ob_tables.proofs.IndexRuns.{draw_is, of_x, on, served, short, short_cause, stands}
use Rattle.ob_tables.proofs.RunLemmas.{engine_left}

module _ {R : Type 0} (state : R → RevState) (stmt : Stmt) (old : Engine R) (s s1 : StoreState) (v : Vault R) (room : RoomState) (t : StoreState) (k draw : ℕ) (keyed : Keyed) (indexes : Vec Index Global) (draws : DrawPlace)
    (agrees : Agrees state old s) (rests : ChangesNothing s s1) (now : refusal_now old.public (count_of old s) stmt ≡ None)
    (accessed : IsAccessed stmt k old.public.tables old.indexes.items)
    (done : IsDone stmt k draw keyed old.indexes.items indexes.items old.room room (at state old.vault s1) (at state v t))
    (drew : draw ≡ draw_at old.draws.key old.draws.next) where
  abbrev before : World
  before = at state old.vault s1

  abbrev after : World
  after = at state v t

  abbrev x : Index
  x = done.before

  -- the reads of the meaning's access are those of this index
  reads_are : (tables : Tables) → Represents state old s tables → access_reads old.public tables stmt ≡ x.slots + path_blocks x.height
  reads_are tables held =
      let keyed_on = on state stmt old s s1 v room t k draw keyed indexes draws agrees rests now accessed done in
      let stood_is = stood state stmt old s s1 v room t k draw keyed indexes draws agrees rests now accessed done drew tables held in
      let found = finds_access old.public (count_of old s) tables stmt stood_is.table x keyed_on (held_headings old.public.pack old.indexes.items old.public.tables tables (world_of state old s) held.held) stood_is.found in
      let of = of_x state stmt old s s1 v room t k draw keyed indexes draws agrees rests now accessed done in
      let shaped = (stands state stmt old s s1 v room t k draw keyed indexes draws agrees rests now accessed done).stored.shaped in
      let slots = (agrees.fit k x done.get).slots in
      let capacity : stood_is.table.heading.capacity ≡ x.capacity = ap (λ (h : Heading). h.capacity) stood_is.heading ∙ sym of.capacity in
      let height : height_of stood_is.table.heading.capacity ≡ x.height = ap height_of capacity ∙ sym (height_same x.capacity x.height shaped.height) in
      ap (λ (o : Option Accessed). option_map_or (λ (a : Accessed). old.public.stash + path_blocks (height_of a.table.heading.capacity)) o 0) found.is
      ∙ (λ i. sym slots i + path_blocks (height i))

  within : (tables : Tables) → Represents state old s tables → AsksReads x before after → length t.asked - length s.asked ≤ access_reads old.public tables stmt
  within tables held asks =
      let same = ap length rests.asked in
      let number = reads_are tables held in
      omega (arith, asks, same, number)

  module _ (e : OramErr) (stops : keyed.result ≡ Err e) (n : ℕ) (count : n ≡ length t.asked - length s.asked) where
    abbrev new : Engine R
    new = engine_left old indexes draws v room old.public.tables (seen_cut old.public.stash keyed.leaf n) true

    -- where nobody changed a block it stopped as the meaning's access did
    stops_keyed : (tables : Tables) (d : Draws) → AreDraws old d → (held : Represents state old s tables) → IsHonest before after → StopsKeyed d old.public (count_of old s) tables stmt e
    stops_keyed tables d of held honest =
        let stood_is = stood state stmt old s s1 v room t k draw keyed indexes draws agrees rests now accessed done drew tables held in
        subst (λ (r : Result Got OramErr). MatchResult r (λ g. ToldKeyed d old.public (count_of old s) tables stmt stood_is.table done.after g after) (λ f. StopsKeyed d old.public (count_of old s) tables stmt f))
        stops ((meant state stmt old s s1 v room t k draw keyed indexes draws agrees rests now accessed done drew tables held d of).told honest)

    honest_until : (tables : Tables) → ReadsTrueUntil state old s new t tables → (Untampered before → Untampered after) → IsHonest before after
    honest_until tables reads calm = record {
      tells = subst (λ (b : Bool). IsTrue b) (sym rests.tells) reads.tells;
      nolie = unfit_none after (calm ((went_rests _ s s1 rests none agrees.ready).calm reads.calm)) reads.unfit;
    }

    -- a full stash is the meaning's, and all was read after which it is
    stops_full : (stash_full : e ≡ OramErrs.StashFull) → (tables : Tables) (d : Draws) → AreDraws old d → ReadsTrueUntil state old s new t tables
        → StopsFull d old.public (count_of old s) tables stmt (length t.asked - length s.asked) Stops.StashFull
    stops_full stash_full tables d of reads =
        let cut = short state stmt old s s1 v room t k draw keyed indexes draws agrees rests now accessed done e stops in
        let cause = subst (λ (f : OramErr). RunCause (Err (stop_of f)) before after) stash_full (short_cause e before after cut.cause) in
        let full : is_full d old.public (count_of old s) tables stmt ≡ true = subst (λ (f : OramErr). StopsKeyed d old.public (count_of old s) tables stmt f) stash_full (stops_keyed tables d of reads.held (honest_until tables reads cause.1)) in
        let all = cut.full stash_full in
        let same = ap length rests.asked in
        let number = reads_are tables reads.held in
        let reads_all : length t.asked - length s.asked ≡ access_reads old.public tables stmt = omega (arith, all, same, number) in
        record { full = λ is. full; reads = λ is. reads_all; bound = λ is. omega (arith, reads_all) }

    -- any stop is after the reads of the meaning's access at most, where that one's stash is full
    bound_by : (f : OramErr) → e ≡ f → (tables : Tables) (d : Draws) → AreDraws old d → ReadsTrueUntil state old s new t tables
        → StopsFull d old.public (count_of old s) tables stmt (length t.asked - length s.asked) (stop_of f)
    bound_by OramErrs.Failed is tables d of reads =
        let cut = short state stmt old s s1 v room t k draw keyed indexes draws agrees rests now accessed done e stops in
        let cause = subst (λ (f : OramErr). RunCause (Err (stop_of f)) before after) is (short_cause e before after cut.cause) in
        let means = meant state stmt old s s1 v room t k draw keyed indexes draws agrees rests now accessed done drew tables reads.held d of in
        record {
          full = λ no. absurd (cc no);
          reads = λ no. absurd (cc no);
          bound = λ full. within tables reads.held (means.room (honest_until tables reads cause.1) full);
        }
    bound_by (OramErrs.Tampered q z) is tables d of reads =
        let cut = short state stmt old s s1 v room t k draw keyed indexes draws agrees rests now accessed done e stops in
        record {
          full = λ no. absurd (cc no);
          reads = λ no. absurd (cc no);
          bound = λ full. within tables reads.held (cut.reads (λ no. absurd (cc (no, is))));
        }
    bound_by OramErrs.StashFull is tables d of reads = stops_full is tables d of reads

    pub stops_within : (tables : Tables) (d : Draws) → AreDraws old d → ReadsTrueUntil state old s new t tables
        → StopsFull d old.public (count_of old s) tables stmt (length t.asked - length s.asked) (stop_of e)
    stops_within tables d of reads = bound_by e refl tables d of reads

    -- whatever the store answered, a full stash has read too many rows
    only_full : (f : OramErr) → stop_of f ≡ Stops.StashFull → f ≡ OramErrs.StashFull
    only_full OramErrs.Failed is = absurd (cc is)
    only_full (OramErrs.Tampered q z) is = absurd (cc is)
    only_full OramErrs.StashFull is = refl

    pub fills : stop_of e ≡ Stops.StashFull → (d : Draws) → AreDraws old d → FillsStash (next_draw d) old.public (count_of old s) stmt old.indexes.items new.seen.leaf s.asked after
    fills is d of =
        let full = only_full e is in
        let cut = short state stmt old s s1 v room t k draw keyed indexes draws agrees rests now accessed done e stops in
        let all = cut.full full in
        let same = ap length rests.asked in
        let slots = (agrees.fit k x done.get).slots in
        let past : old.public.stash < n = omega (arith, count, all, same, slots) in
        let more : nat_lt old.public.stash n ≡ true = grind (arith, nat_tests) in
        record {
          place = k;
          index = x;
          get = done.get;
          on = on state stmt old s s1 v room t k draw keyed indexes draws agrees rests now accessed done;
          leaf = keyed.leaf;
          shown = ap (λ (b : Bool). held_if b (Some keyed.leaf)) more;
          old = before;
          begun = rests.asked;
          over = subst (λ (m : ℕ). Overfills stmt x m keyed.leaf before after) (draw_is state stmt old s s1 v room t k draw keyed indexes draws agrees rests now accessed done drew d of)
              ((served state stmt old s s1 v room t k draw keyed indexes draws agrees rests now accessed done).full (stops ∙ ap Err full));
        }
