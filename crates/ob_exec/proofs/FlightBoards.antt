-- The statements of a flight may set off: each stands, and goes by what is public.
use Rattle.ob_exec.proofs.Words.{Agrees, allowed, answer_labels, ap, AreNamed, arith, Bool, ChangesNothing, count_of, Create, Delete, early_of, Engine, Event, events_at, false, FitShares, flat_of, flight_kind, flight_progress, flight_public, in_flight, Insert, is_access, is_late, IsAboard, IsAt, IsFlat, labels_of, length, limits_of, List, MayFlyBy, nat_tests, None, none, Public, refl, refusal_now, RevState, selection, SelectsFromOne, skeleton, slice_get, Some, Source, Stmt, StoreState, subst, suc, sym, Update, went_rests, World, world_of, zero, ℕ, [], ◌*◌, ◌+◌, ◌-◌, ◌<◌, ◌^◌, ◌∙◌, ◌≡◌, ◌≤◌}
use Rattle.std.proofs.Common.{◌/◌}
use Rattle.std.proofs.lemmas.Nat.{div-add-mod', le-div}
use Rattle.std.proofs.lemmas.Option.{get_or_from_slice_get, slice_get_within}
use Rattle.ob_base.specs.declared.skeleton.Skeleton.TheVariants.{Rows as RowsSkeleton}
use Rattle.ob_flat.specs.declared.flat.Flat.{Flat}
use Rattle.ob_flat.specs.Scans.{MayScan}
use Rattle.ob_flat.proofs.Tables.{fits_sized, written_flat}
use Rattle.ob_inflight.specs.AfterTurns.{AreBoarded, booked_by, most_of}
use Rattle.ob_inflight.specs.Closing.{outcome_at}
use Rattle.ob_inflight.specs.Kinds.{moment, share_at}
use Rattle.ob_inflight.proofs.Lists.{total_few}
use Rattle.ob_join.proofs.Windows.{part_long, part_wide, product_within}
use Rattle.ob_mean.specs.Refusals.{tables_of}
use Rattle.ob_sql.specs.declared.stmt.SelectRows.{SelectRows}
use Rattle.ob_sql.specs.declared.stmt.Stmt.TheVariants.{Drop as DropTable, SelectRows as RowsStmt, SelectTotals as TotalsStmt}
use Rattle.ob_stages.specs.Flying.{FlightHolds}
use Rattle.ob_stages.specs.declared.flight.Flight.{Flight}
use Rattle.ob_stages.proofs.GroupsEnds.{buffered_few, share_few}
use Rattle.ob_tables.proofs.SourceColumns.{labelled_is}
use Rattle.ob_tables.proofs.TableLemmas.{flat_kept}
use Rattle.ob_vault.specs.Rows.{Wide}
use Rattle.ob_vault.proofs.RowsLemmas.{rows_room}
use Rattle.ob_vault.proofs.WordLemmas.{ready_rests}
use Rattle.ob_exec.specs.Boarding.{AreAboard, MaySetOff, share_of}
use Rattle.ob_exec.specs.InFlight.{AreFlight, Flies}
use Rattle.ob_exec.proofs.BoardOne.{early_same, from_one, table_sized}
use Rattle.ob_exec.proofs.FlightLists.{get_other}
use Rattle.ob_exec.proofs.FlightRuns.{Boards}
use Rattle.ob_exec.proofs.FlightStage.{HasTable, IsSet}

-- the store is to have room for no more than a count holds
pub booked_most : (late : Bool) (n : ℕ) (p : Public) (stmts : List Stmt) (flights : List Flight) → AreAboard late n p stmts flights → length stmts ≤ 8 → booked_by flight_kind flights < 2 ^ 64
booked_most late n p stmts flights aboard few =
    let sum = total_few (λ (f : Flight). (flight_progress f).booked) (2 ^ 59) flights
    (λ i f at. let there = get_other flights stmts i f (sym aboard.size) at in (aboard.each i there.0 f there.1 at).few) in
    let size = aboard.size in
    omega (arith, sum, size, few)

-- the rows of a block and of each share are rows of the room
pub rows_fit : (n pack buffer : ℕ) → 1 ≤ n → 1 ≤ pack → 3 * pack + 1 ≤ buffer / n → pack + n * ((buffer / n - 2 * pack) / pack * pack) ≤ buffer
rows_fit n pack buffer some least enough =
    let share = (buffer / n - 2 * pack) / pack * pack in
    let within : share + 2 * pack ≤ buffer / n = let whole = div-add-mod' (buffer / n - 2 * pack) pack in let turned : share ≡ pack * ((buffer / n - 2 * pack) / pack) = grind arith in omega (arith, whole, enough, turned) in
    let times = product_within (share + 2 * pack) (buffer / n) n within in
    let all = div-add-mod' buffer n in
    let one = product_within 1 n pack some in
    let left : (share + 2 * pack) * n ≡ n * share + 2 * (n * pack) = grind arith in
    let right : buffer / n * n ≡ n * (buffer / n) = grind arith in
    omega (arith, times, all, one, left, right)

-- what each of a flight is
pub flies_in : (p : Public) (m : ℕ) (stmts : List Stmt) → AreFlight p m stmts → (i : ℕ) (stmt : Stmt) → slice_get stmts i ≡ Some stmt → Flies p m stmt
flies_in p m stmts flown i stmt at = subst (λ (x : Stmt). Flies p m x) (get_or_from_slice_get stmts i stmt stmt at) (flown.each i stmt (slice_get_within stmts i stmt at))

-- no more than this fly, and each has its share
most_shared : (n pack buffer : ℕ) → 1 ≤ n → n ≤ buffer / (3 * pack + 1) → 3 * pack + 1 ≤ buffer / n
most_shared n pack buffer some few =
    let least : 1 ≤ 3 * pack + 1 = omega arith in
    let times = product_within n (buffer / (3 * pack + 1)) (3 * pack + 1) few in
    let whole = div-add-mod' buffer (3 * pack + 1) in
    let turned : (3 * pack + 1) * n ≡ n * (3 * pack + 1) = grind arith in
    le-div (3 * pack + 1) buffer n some (omega (arith, times, whole, turned))

pub may_fly_by : {R : Type 0} (state : R → RevState) (old : Engine R) (s : StoreState) (stmts : List Stmt) → Agrees state old s → AreFlight old.public (count_of old s) stmts → MayFlyBy (length stmts) old.public
may_fly_by state old s stmts agrees flown =
    let several = flown.some in
    let most = flown.few in
    record {
      settings = agrees.settings;
      several = several;
      few = omega (arith, most);
      share = most_shared (length stmts) old.public.pack old.public.buffer (omega (arith, several)) (omega (arith, most));
      headings = λ i t at. (agrees.tables.each i t at).heading;
      names = agrees.tables.names;
    }

-- an access of an index follows from the tables alone
plain_same : (n : ℕ) (p : Public) (stmt : Stmt) → SelectsFromOne (skeleton stmt) → is_access (flight_public n p) (skeleton stmt) ≡ is_access p (skeleton stmt)
plain_same n p (RowsStmt s) is =
    let one = from_one s.source s.list is in
    ap (λ (source : Source). is_access (flight_public n p) (RowsSkeleton source s.list)) one.1 ∙ sym (ap (λ (source : Source). is_access p (RowsSkeleton source s.list)) one.1)
plain_same n p (TotalsStmt s) is = refl
plain_same n p other is = absurd is

no_events : (i : ℕ) → events_at [] [] i ≡ []
no_events zero = refl
no_events (suc i) = refl

no_outcome : (i : ℕ) → outcome_at [] i ≡ None
no_outcome zero = refl
no_outcome (suc i) = refl

share_narrow : (n : ℕ) (p : Public) → p.buffer ≤ 65536 → share_of n p ≤ 65536
share_narrow n p most =
    let few = buffered_few p.pack (p.buffer / n) (share_few p.buffer n most) in
    let turned : share_of n p ≡ Rattle.ob_base.specs.Limits.buffered p.pack (p.buffer / n) = grind arith in
    omega (arith, few, turned)

not_late : (m : ℕ) → is_late m ≡ false → m < 2 ^ 63
not_late m early = grind (arith, nat_tests)

module _ {R : Type 0} (state : R → RevState) (old : Engine R) (s s1 : StoreState) (agrees : Agrees state old s) (rests : ChangesNothing s s1) (stmts : List Stmt)
    (flown : AreFlight old.public (count_of old s) stmts) (flights : List Flight) (aboard : AreAboard (is_late (count_of old s)) (length stmts) old.public stmts flights) where
  abbrev m : ℕ
  m = count_of old s

  abbrev p : Public
  p = old.public

  abbrev w : World
  w = world_of state old s1

  by : MayFlyBy (length stmts) old.public
  by = may_fly_by state old s stmts agrees flown

  flies : (i : ℕ) (stmt : Stmt) → slice_get stmts i ≡ Some stmt → Flies old.public (count_of old s) stmt
  flies = flies_in old.public (count_of old s) stmts flown

  -- ---- by what each goes
  module _ (stmt : Stmt) (f : Flight) (goes : Flies old.public (count_of old s) stmt) (is : IsAboard (is_late (count_of old s)) (length stmts) old.public stmt f) where
    labelled : (select : SelectRows) → stmt ≡ RowsStmt select → early_of (is_late m) p stmt ≡ None
        → labels_of (selection (in_flight stmts p) select).flat.schema (selection (in_flight stmts p) select).cols ≡ answer_labels (RowsStmt select) (in_flight stmts p)
    labelled select of free = labelled_is state old s select agrees (sym (ap (refusal_now p m) of) ∙ free)

    has_table : early_of (is_late m) p stmt ≡ None → HasTable (flight_progress f)
    has_table free =
        let from = is.table free in
        record {
          name = from.name;
          place = from.place;
          table = from.found.table;
          reads = ap tables_of is.is ∙ from.reads;
          plain = (λ j. is_access (is.public j) (skeleton (is.is j))) ∙ plain_same (length stmts) p stmt goes.selects ∙ goes.flat free;
          here = subst (λ (x : Public). IsAt from.name from.place from.found.table x.tables) (sym is.public) (record { get = from.found.here.get; named = from.found.here.named });
          shape = from.found.shape;
          is = from.found.is;
          names = subst (λ (x : Public). AreNamed x.tables) (sym is.public) agrees.tables.names;
          labelled = λ select of.
              subst (λ (x : Public). labels_of (selection x select).flat.schema (selection x select).cols ≡ answer_labels (RowsStmt select) x) (sym is.public) (labelled select (sym is.is ∙ of) free);
        }

    is_set : IsSet m (flight_progress f)
    is_set = record {
      refusal = is.refusal ∙ sym (early_same (is_late m) (length stmts) p stmt goes.selects) ∙ (λ j. refusal_now (sym is.public j) m (sym is.is j));
      table = λ none. has_table (sym is.refusal ∙ none);
    }

    -- its table may be read
    scans : early_of (is_late m) p stmt ≡ None → MayScan p.pack (flight_progress f).flat w
    scans free =
        let from = is.table free in
        let table = from.found.table in
        let flat : IsFlat p.pack (flat_of table) w =
        flat_kept none p.pack (flat_of table) (world_of state old s) w (went_rests _ s s1 rests none agrees.ready).lasts (λ off. off) ((agrees.tables.each from.place table from.found.here.get).written from.found.shape).flat in
        subst (λ (t : Flat). MayScan p.pack t w) (sym from.found.is) (record {
          some = agrees.settings.pack_least;
          most = agrees.settings.pack_most;
          size = fits_sized p.pack table.heading.schema table.heading.capacity agrees.settings.pack_least (table_sized table.heading (agrees.tables.each from.place table from.found.here.get).heading);
          written = written_flat p.pack (flat_of table) w flat;
        })

  aboard_at : (i : ℕ) (f : Flight) → slice_get flights i ≡ Some f
      → (stmt : Stmt) × ((slice_get stmts i ≡ Some stmt) × (Flies old.public (count_of old s) stmt × IsAboard (is_late (count_of old s)) (length stmts) old.public stmt f))
  aboard_at i f at =
      let there = get_other flights stmts i f (sym aboard.size) at in
      (there.0, (there.1, (flies i there.0 there.1, aboard.each i there.0 f there.1 at)))

  -- they go as a flight of these
  pub boards : (shares : List (List ℕ)) → Boards flight_kind (count_of old s) old.public stmts (record { flyers = flights; kept = shares; world = world_of state old s1 })
  boards shares = record {
    next = sym agrees.next;
    some = let several = flown.some in omega (arith, several);
    size = aboard.size;
    each = λ i f stmt at there.
        let goes = flies i stmt there in
        let is = aboard.each i stmt f there at in
        record { is = is.is; public = is.public; set = is_set stmt f goes is; selects = goes.selects };
  }

  -- ---- they may set off
  module _ (rows kept : List (List ℕ)) (block : length rows ≡ old.public.pack) (block_wide : Wide 1024 rows) (long : length kept ≡ length flights * share_of (length stmts) old.public) (wide : Wide 1024 kept) where
    abbrev share : ℕ
    share = share_of (length stmts) old.public

    fit_at : (i : ℕ) (f : Flight) → slice_get flights i ≡ Some f → FitShares (length stmts) old.public rows (share_at share i kept)
    fit_at i f at =
        let within = rows_room i (length flights) share (slice_get_within flights i f at) in
        record {
          block = block;
          block_wide = block_wide;
          share = part_long (i * share) share kept (omega (arith, within, long));
          share_wide = part_wide (i * share) share kept (omega (arith, within, long)) 1024 wide;
        }

    most_few : most_of flight_kind flights ≤ 2 ^ 59
    most_few =
        let sum = total_few (λ (f : Flight). (flight_progress f).most) (2 ^ 56) flights (λ i f at. (aboard_at i f at).1.1.1.most) in
        let size = aboard.size in
        let few = by.few in
        omega (arith, sum, size, few)

    pub boarded : booked_by flight_kind flights ≤ s1.spare → AreBoarded flight_kind share rows (moment flights kept w)
    boarded spare = record {
      public = in_flight stmts p;
      stand = record {
        ready = ready_rests _ s s1 rests agrees.ready;
        holds = λ i f at.
            let it = aboard_at i f at in
            subst (λ (events : List Event). FlightHolds f (share_at share i kept) events w) (sym (no_events i))
            (it.1.1.1.holds w rows (share_at share i kept) (ready_rests _ s s1 rests agrees.ready) (fit_at i f at) (λ free. scans it.0 f it.1.1.0 it.1.1.1 free));
        outcome = λ i f at. (aboard_at i f at).1.1.1.outcome ∙ sym (no_outcome i);
        public = λ i f at. (aboard_at i f at).1.1.1.public;
        apart = λ i j f g at there off q own need. absurd (let none = (aboard_at i f at).1.1.1.region in cc (none, own));
        below = λ i f at q own. absurd (let none = (aboard_at i f at).1.1.1.region in cc (none, own));
        spare = spare;
        few = λ i f at. (aboard_at i f at).1.1.1.few;
        most = λ i f at left.
            let it = aboard_at i f at in
            let early = not_late m (allowed (is_late m) (limits_of p) (Rattle.ob_base.specs.Stored.headings_of p.tables) it.0 (it.1.1.1.left left)).early in
            let same = ap length rests.asked in
            let more = most_few in
            omega (arith, early, same, more);
        several = let size = aboard.size in let few = by.few in omega (arith, size, few);
        shares = long;
        narrow = let most = share_narrow (length stmts) p agrees.settings.most in omega (arith, most);
      };
      fit = record { each = λ i f at going. (aboard_at i f at).1.1.1.fits rows (share_at share i kept) (fit_at i f at) };
      unasked = λ i f at. (aboard_at i f at).1.1.1.asked;
      unmade = λ i f at. (aboard_at i f at).1.1.1.region;
      unfailed = λ i f at. (aboard_at i f at).1.1.1.failed;
    }

  pub may_set_off : booked_by flight_kind flights ≤ s1.spare → MaySetOff flight_kind old.public.pack (share_of (length stmts) old.public) flights (world_of state old s1)
  may_set_off spare = record { boards = λ rows kept block block_wide long wide. boarded rows kept block block_wide long wide spare }
