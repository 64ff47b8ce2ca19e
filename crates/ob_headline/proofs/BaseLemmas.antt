-- What statements go on from.
use Rattle.ob_headline.proofs.Words.{ap, Base, FliesNone, FlightSettings, flying, FromEach, None, Opened, Option, Session, session_at, Some, Tables, [], ◌≡◌}
use Rattle.ob_headline.specs.Bases.{HoldsFrom}
use Rattle.ob_headline.specs.Flights.{most_flown}

-- how SELECTs fly changes nothing of it
pub from_flying : (flight : Option FlightSettings) (base : Base) (P : Session → Type 0) → FromEach (flying flight base) P → FromEach base P
from_flying flight base P each = go base.opened each where
  go : (o : Option Opened) → HoldsFrom o (flying flight base) P → HoldsFrom o base P
  go None holds = holds
  go (Some o) holds = holds

pub unflown : (flight : Option FlightSettings) (base : Base) → flight ≡ None → FliesNone (flying flight base)
unflown flight base none = ap (λ (o : Option FlightSettings). most_flown o base.public) none

-- what follows for each session that they may go on from
pub from_each : (base : Base) (P Q : Session → Type 0) → ((tables : Tables) → P (session_at base tables) → Q (session_at base tables)) → FromEach base P → FromEach base Q
from_each base P Q follows each = go base.opened each where
  go : (o : Option Opened) → HoldsFrom o base P → HoldsFrom o base Q
  go None holds = follows [] holds
  go (Some o) holds = λ tables rested. follows tables (holds tables rested)
