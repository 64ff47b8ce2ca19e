-- A store whose list lets go of what statements in flight asked: nothing else that is known of them has changed.
use Rattle.ob_shell.proofs.Words.{Engine, inl, inr, List, Ok, Option, RanInFlight, ReadsTrueUntil, RevState, Seen, Stmt, StoreState, subst, sym, Tables, Tally, world_of, ℕ}
use Rattle.ob_inflight.specs.Closing.{Closed}
use Rattle.ob_shell.proofs.LetGoLemmas.{agrees_left, calm_now, represents_left, seals_now, since_left}
use Rattle.ob_shell.specs.Flying.{CountsFlight}
use Rattle.ob_shell.specs.Traces.{LetsGoFrom}
use Rattle.ob_store.specs.Calls.{without_list}

module _ {R : Type 0} (state : R → RevState) (words left : ℕ → ℕ) (stmts : List Stmt) (old : Engine R) (s : StoreState) (new : Engine R) (t : StoreState) where
  module _ (room : ℕ) where
    abbrev last : StoreState
    last = without_list room t

    reads_back : (tables : Tables) → ReadsTrueUntil state old s new last tables → ReadsTrueUntil state old s new t tables
    reads_back tables reads = record { tells = reads.tells; held = reads.held; calm = reads.calm; unfit = record { unfit = reads.unfit.unfit } }

    in_flight_left : (seens : List Seen) (ended : List Closed) → RanInFlight {T = Unit {0}} state words left stmts seens ended (Ok tt) old s new t → RanInFlight {T = Unit {0}} state words left stmts seens ended (Ok tt) old s new last
    in_flight_left seens ended is = record {
      long = is.long;
      ran = record {
        asked = is.ran.asked;
        later = since_left room s t is.ran.later;
        keys = is.ran.keys;
        start = is.ran.start;
        from_closing = is.ran.from_closing;
        replaced = is.ran.replaced;
        indexes = is.ran.indexes;
        drawn = is.ran.drawn;
        room = is.ran.room;
        opened = is.ran.opened;
        untouched = record { live = is.ran.untouched.live; number = is.ran.untouched.number; turn = is.ran.untouched.turn; kept = is.ran.untouched.kept; last = is.ran.untouched.last; rests = is.ran.untouched.rests };
        goes_on = record { agrees = agrees_left state new t room is.ran.goes_on.agrees; public = is.ran.goes_on.public; lives = is.ran.goes_on.lives };
      };
      rest = is.rest;
      all = is.all;
      each = is.each;
      emits = is.emits;
      turn = tt;
      cause = λ calm. calm_now (world_of state new t).vault t room (is.cause calm);
      failures = record { least = is.failures.least; none = is.failures.none };
      seals = λ good rows one. seals_now (world_of state new t).vault t room good _ (is.seals good rows one);
      means = record {
        told = λ tables d reads. is.means.told tables d (reads_back tables reads);
        emitted = λ tables reads. is.means.emitted tables (reads_back tables reads);
        held = λ tables reads. represents_left state new t room tables (is.means.held tables (reads_back tables reads));
        honest = λ tables reads. tt;
        begun = is.means.begun;
        earlier = λ i k stmt seen one get shown closed within.
            let then_so = is.means.earlier i k stmt seen one get shown closed within in
            record { mid = then_so.mid; later = then_so.later; few = then_so.few; lie = then_so.lie; unread = then_so.unread; fails = then_so.fails; told = then_so.told };
        asks = λ k less.
            let then_so = is.means.asks k less in
            record { mid = then_so.mid; later = then_so.later; few = then_so.few; lie = then_so.lie; told = then_so.told };
      };
    }

    counts_left : (tally counted : Tally) (w0 w1 : Option (List ℕ)) → CountsFlight state words left stmts tally counted w0 w1 old s new t → CountsFlight state words left stmts tally counted w0 w1 old s new last
    counts_left tally counted w0 w1 is = record {
      answers = is.answers;
      answered = record {
        seens = is.answered.seens;
        flew = record {
          ended = is.answered.flew.ended;
          ran = in_flight_left is.answered.seens is.answered.flew.ended is.answered.flew.ran;
          answered = is.answered.flew.answered;
        };
        appends = is.answered.appends;
      };
      counted = is.counted;
    }

  pub counts_from : (from : ℕ) (u : StoreState) (tally counted : Tally) (w0 w1 : Option (List ℕ)) → LetsGoFrom from t u → CountsFlight state words left stmts tally counted w0 w1 old s new t → CountsFlight state words left stmts tally counted w0 w1 old s new u
  counts_from from u tally counted w0 w1 (inl (none, same)) is = subst (λ (v : StoreState). CountsFlight state words left stmts tally counted w0 w1 old s new v) (sym same) is
  counts_from from u tally counted w0 w1 (inr (more, room, left_is)) is = subst (λ (v : StoreState). CountsFlight state words left stmts tally counted w0 w1 old s new v) (sym left_is) (counts_left room tally counted w0 w1 is)
