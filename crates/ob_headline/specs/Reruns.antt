-- What runs ask, and when two of them ask the same.
use Rattle.std.specs.Prelude.{ℕ, ◌≡◌, ◌≤◌, ◌+◌, ◌⊎◌, ◌&&◌, ◌||◌, ⊤, Bool, true, false, not, if◌then◌else◌, List, [], ◌∷◌, ◌++◌, length, map, IsSome, IsTrue, Option, None, Ok, Err, is_some}
use Rattle.clap.specs.Words.{App, Text}
use Rattle.ob_base.specs.declared.access.Access.{Access}
use Rattle.ob_base.specs.declared.config.Public.{Public}
use Rattle.ob_base.specs.declared.seen.End.{End}
use Rattle.ob_base.specs.declared.seen.End.TheVariants.{Static, Whole, Batched}
use Rattle.ob_base.specs.declared.seen.Seen.{Seen}
use Rattle.ob_verdict.specs.Outcomes.{refusal_now}
use Rattle.ob_headline.specs.Bases.{Base, flying, fresh}
use Rattle.ob_headline.specs.Failures.{failures}
use Rattle.ob_headline.specs.Flights.{FliesNone, Position, positions_of}
use Rattle.ob_headline.specs.Headline.{Headline}
use Rattle.ob_headline.specs.Settings.{IsTaken, IsTakenSaved, MeddleParses, flight_of, settings_of}
use Rattle.ob_headline.specs.Usage.{is_traced, usage}
use Rattle.ob_headline.specs.Words.{Begins, Outside, keys_in}
use Rattle.ob_headline.specs.declared.ending.Report.{Report}
use Rattle.ob_mean.specs.Batches.{Gathering, gathering_after, goes_into}
use Rattle.ob_mean.specs.Lawful.{selects_rows}
use Rattle.ob_mean.specs.Replay.{Spelt, is_access}
use Rattle.ob_script.specs.Script.{script}
use Rattle.ob_script.specs.Trace.{Served, next, trace}
use Rattle.ob_seal.specs.KeySet.{KeySet}
use Rattle.ob_sql.specs.Skeleton.{skeleton}
use Rattle.ob_sql.specs.declared.stmt.Stmt.{Stmt}

-- what `shell_top` promises of a run that reads its input
abbrev pub ShellRun : List Text → (old new : Outside) → Report → Type 0
ShellRun words old new report =
    Headline (flying (flight_of usage words) (fresh (settings_of usage words))) keys_in
    (IsTaken usage words) (is_traced usage words) old new report

-- ---- one run, by the words of any program, from any base and by any keys
-- a program with these words, the one over whose store others do what the words say, and the one that may save its tables
pub data Program : Type 0 where
  of_words : App → Program
  of_meddling : Program
  of_saving : Program

-- it takes these words
abbrev pub TakesWords : Program → List Text → Type 0
TakesWords (of_words app) words = IsTaken app words
TakesWords of_meddling words = MeddleParses words
TakesWords of_saving words = IsTakenSaved words

pub record SomeRun : Type 0 where
  pub base : Base
  pub keys : List ℕ → KeySet
  pub program : Program
  pub words : List Text
  pub tracing : Bool
  pub old : Outside
  pub new : Outside
  pub report : Report
  pub run : Headline base keys (TakesWords program words) tracing old new report

-- a run of `shell_top`
abbrev pub shell_run : {words : List Text} {old new : Outside} {report : Report}
    → ShellRun words old new report → SomeRun
shell_run {words} {old} {new} {report} run = record {
  base = flying (flight_of usage words) (fresh (settings_of usage words));
  keys = keys_in;
  program = of_words usage;
  words = words;
  tracing = is_traced usage words;
  old = old;
  new = new;
  report = report;
  run = run;
}

-- a statement as it was stated: where INSERTs are served together, whether a text that is none came right before it, so that
-- it is served apart from the ones before that
pub record Stated : Type 0 where
  pub stmt : Stmt
  pub apart : Bool

-- the statements among what texts spell, the first of which comes after such a text or doesn't
unfoldable pub stated : (batched apart : Bool) → List Spelt → List Stated
stated batched apart [] = []
stated batched apart (Ok stmt ∷ spelt) =
    record { stmt = stmt; apart = apart } ∷ stated batched false spelt
stated batched apart (Err at ∷ spelt) = stated batched batched spelt

abbrev pub stated_in : Public → List Spelt → List Stated
stated_in p spelt = stated (is_some p.batch) false spelt

abbrev pub stated_of : SomeRun → List Stated
stated_of one = stated_in one.base.public one.run.story.spelt

abbrev pub seen_by : SomeRun → List Served
seen_by one = one.run.story.seen ++ one.run.story.last

-- by what each of its statements goes
abbrev pub positions_by : SomeRun → List Position
positions_by one = positions_of one.base one.run.story.entries

abbrev pub asked_by : SomeRun → List Access
asked_by one = one.new.store.asked

-- the keys of its blocks
abbrev pub keys_by : SomeRun → KeySet
keys_by one = one.keys one.run.taken

abbrev pub failures_of : SomeRun → ℕ
failures_of one = failures one.run.story.answers

-- none of its statements flies
abbrev pub ServesAlone : SomeRun → Type 0
ServesAlone one = FliesNone one.base

-- two runs go on from the same: what is public, and how much was asked
pub record GoOnFromOne (a b : SomeRun) : Type 0 where
  pub public : a.base.public ≡ b.base.public
  pub count : a.base.count ≡ b.base.count
  pub before : a.base.before ≡ b.base.before

-- before which of the statements a text came that spells none
abbrev pub breaks_in : List Spelt → List Bool
breaks_in spelt = map (λ (t : Stated). t.apart) (stated true false spelt)

-- two runs whose SELECTs fly alike, if they do, and of whose statements the same is seen, of which the same ones come right
-- after a text that is none
pub record ShowTheSame (a b : SomeRun) : Type 0 where
  pub flight : a.base.flight ≡ b.base.flight
  pub breaks : breaks_in a.run.story.spelt ≡ breaks_in b.run.story.spelt
  pub seen : seen_by a ≡ seen_by b

-- a run that came to its end, and of which no text was answered that the store failed
pub record EndsWell (status : ℕ) (failures : ℕ) : Type 0 where
  pub ended : status ≤ 1
  pub none : failures ≡ 0

-- what is seen of a statement that was not cut off, where it is no SELECT of rows or results are padded: whether it was
-- refused before any access, and else whether it was served with an INSERT before it
abbrev pub seen_plainly : (refused joined : Bool) → Seen
seen_plainly true joined = record { k = None; plan = None; then = None; leaf = None; end = Static }
seen_plainly false true = record { k = None; plan = None; then = None; leaf = None; end = Batched }
seen_plainly false false = record { k = None; plan = None; then = None; leaf = None; end = Whole }

-- where so many INSERTs were gathered before it
abbrev pub plainly : Public → ℕ → Option Gathering → Stmt → Seen
plainly p m g stmt = seen_plainly (is_some (refusal_now p m stmt)) (goes_into p g (skeleton stmt))

-- what it may go into in its turn, and what is gathered after it
abbrev pub gathered_at : Option Gathering → Stated → Option Gathering
gathered_at g t = if t.apart then None else g

abbrev pub gathered_behind : Public → ℕ → Option Gathering → Stated → End → Option Gathering
gathered_behind p m g t end = gathering_after p m (gathered_at g t) t.stmt end

-- what is seen of it so in its turn
abbrev pub plainly_at : Public → ℕ → Option Gathering → Stated → Seen
plainly_at p m g t = plainly p m (gathered_at g t) t.stmt

-- it accesses no index, and it is no SELECT of rows, or results are padded
abbrev pub IsPlain : Public → Stmt → Type 0
IsPlain p stmt =
    (is_access p (skeleton stmt) ≡ false) × ((selects_rows stmt ≡ false) ⊎ IsSome p.pad)

-- of a statement that isn't cut off more is seen than that: it accesses an index, whose leaf is seen, or is a SELECT of rows
-- whose result isn't padded
abbrev pub shows_more : Public → Stmt → Bool
shows_more p stmt = is_access p (skeleton stmt) || (selects_rows stmt && not (is_some p.pad))

-- one of them is a SELECT of rows
unfoldable pub any_counted : List Stated → Bool
any_counted [] = false
any_counted (t ∷ ts) = selects_rows t.stmt || any_counted ts

-- two lists of statements, of each of which is seen whether it was refused before any access and whether it was served with
-- an INSERT before it, and nothing else: their skeletons are the same, none accesses an index, the same ones are refused so,
-- and the same ones are apart
unfoldable pub Alike : Public → ℕ → Option Gathering → List Stated → List Stated → Type 0
Alike p m g [] [] = ⊤
Alike p m g [] (b ∷ qs) = ⊥
Alike p m g (a ∷ ps) [] = ⊥
Alike p m g (a ∷ ps) (b ∷ qs) =
    (skeleton a.stmt ≡ skeleton b.stmt) × (is_access p (skeleton a.stmt) ≡ false)
    × (is_some (refusal_now p m a.stmt) ≡ is_some (refusal_now p m b.stmt))
    × (a.apart ≡ b.apart)
    × Alike (next p (skeleton a.stmt) (plainly_at p m g a))
    (m + length (script p (skeleton a.stmt) (plainly_at p m g a)))
    (gathered_behind p m g a (plainly_at p m g a).end) ps qs

-- any two lists of statements, and what was seen of each: their skeletons are the same, the same ones are refused before
-- any access, the same ones are apart, and of each that accesses an index, and of each SELECT of rows that isn't padded,
-- the same is seen
unfoldable pub ShowAlike : Public → ℕ → List Stated → List Served → List Stated → List Served
    → Type 0
ShowAlike p m [] xs [] ys = ⊤
ShowAlike p m [] xs (b ∷ qs) ys = ⊥
ShowAlike p m (a ∷ ps) xs [] ys = ⊥
ShowAlike p m (a ∷ ps) [] (b ∷ qs) ys = ⊥
ShowAlike p m (a ∷ ps) (x ∷ xs) (b ∷ qs) [] = ⊥
ShowAlike p m (a ∷ ps) (x ∷ xs) (b ∷ qs) (y ∷ ys) =
    (skeleton a.stmt ≡ skeleton b.stmt)
    × (is_some (refusal_now p m a.stmt) ≡ is_some (refusal_now p m b.stmt))
    × (a.apart ≡ b.apart) × (IsTrue (shows_more p a.stmt) → x.seen ≡ y.seen)
    × ShowAlike (next p x.skeleton x.seen) (m + length (script p x.skeleton x.seen)) ps xs qs ys

-- of statements that are not cut off, each of which is no SELECT of rows or has its result padded, what is seen: a
-- function of their skeletons, of which are refused before any access, and of which are apart
unfoldable pub shown_plainly : Public → ℕ → Option Gathering → List Stated → List Served
shown_plainly p m g [] = []
shown_plainly p m g (t ∷ ts) =
    record { skeleton = skeleton t.stmt; seen = plainly_at p m g t }
    ∷ shown_plainly (next p (skeleton t.stmt) (plainly_at p m g t))
    (m + length (script p (skeleton t.stmt) (plainly_at p m g t)))
    (gathered_behind p m g t (plainly_at p m g t).end) ts

-- each of them accesses no index, and is no SELECT of rows or has its result padded
unfoldable pub ArePlain : Public → ℕ → Option Gathering → List Stated → Type 0
ArePlain p m g [] = ⊤
ArePlain p m g (t ∷ ts) =
    IsPlain p t.stmt × ArePlain (next p (skeleton t.stmt) (plainly_at p m g t))
    (m + length (script p (skeleton t.stmt) (plainly_at p m g t)))
    (gathered_behind p m g t (plainly_at p m g t).end) ts

-- what is seen of a statement that isn't cut off: where more is seen than its early refusal, and whether it was served with
-- an INSERT before it, what was seen of it, and else what follows from those
abbrev pub shown_as : Public → ℕ → Option Gathering → Stated → Seen → Served
shown_as p m g t seen = record {
  skeleton = skeleton t.stmt;
  seen = if shows_more p t.stmt then seen else plainly_at p m g t;
}

-- what is seen of statements of which none is cut off, except for those
unfoldable pub shown : Public → ℕ → Option Gathering → List Stated → List Served → List Served
shown p m g [] xs = []
shown p m g (t ∷ ts) [] = []
shown p m g (t ∷ ts) (x ∷ xs) =
    shown_as p m g t x.seen
    ∷ shown (next p (skeleton t.stmt) (shown_as p m g t x.seen).seen)
    (m + length (script p (skeleton t.stmt) (shown_as p m g t x.seen).seen))
    (gathered_behind p m g t (shown_as p m g t x.seen).seen.end) ts xs

-- as far as both go two lists of statements show the same: their skeletons are the same, the same ones are refused before
-- any access, the same ones are served with an INSERT before them, and of each that accesses an index, and of each SELECT of
-- rows that isn't padded, the same is seen
unfoldable pub AlikeSoFar : Public → ℕ → (g h : Option Gathering) → List Stated → List Served
    → List Stated → List Served → Type 0
AlikeSoFar p m g h [] xs qs ys = ⊤
AlikeSoFar p m g h (a ∷ ps) xs [] ys = ⊤
AlikeSoFar p m g h (a ∷ ps) [] (b ∷ qs) ys = ⊤
AlikeSoFar p m g h (a ∷ ps) (x ∷ xs) (b ∷ qs) [] = ⊤
AlikeSoFar p m g h (a ∷ ps) (x ∷ xs) (b ∷ qs) (y ∷ ys) =
    (shown_as p m g a x.seen ≡ shown_as p m h b y.seen)
    × AlikeSoFar (next p (skeleton a.stmt) (shown_as p m g a x.seen).seen)
    (m + length (script p (skeleton a.stmt) (shown_as p m g a x.seen).seen))
    (gathered_behind p m g a (shown_as p m g a x.seen).seen.end)
    (gathered_behind p m h b (shown_as p m h b y.seen).seen.end) ps xs qs ys

-- one of them is a first part of the other
abbrev pub OneBegins : {A : Type 0} → (xs ys : List A) → Type 0
OneBegins xs ys = Begins xs ys ⊎ Begins ys xs

-- a run asks a first part of one list, after what it begins with: of the accesses that follow from the skeletons of its
-- statements, from which are refused before any access and which are apart, and from what is seen of those that access an
-- index, and of its SELECTs of rows that aren't padded
abbrev pub AsksAsShown : SomeRun → Type 0
AsksAsShown one = Begins (asked_by one) (one.base.before ++ trace one.base.public
    (shown one.base.public one.base.count None (stated_of one) (seen_by one)))

-- if none of a run's statements flies, no text was answered that the store failed, and each accesses no index, and is no SELECT
-- of rows or has its result padded, what it asks is a first part of one list, however it ends: after what it begins with, of the
-- accesses that follow from the skeletons of its statements, and from which are refused before any access and which are apart
abbrev pub AsksByKinds : {base : Base} {keys : List ℕ → KeySet} {Takes : Type 0}
    {tracing : Bool} {old new : Outside} {report : Report}
    → Headline base keys Takes tracing old new report → Type 0
AsksByKinds {base = base} {new = new} run =
    FliesNone base → failures run.story.answers ≡ 0
    → ArePlain base.public base.count None (stated_in base.public run.story.spelt)
    → Begins new.store.asked (base.before ++ trace base.public
    (shown_plainly base.public base.count None (stated_in base.public run.story.spelt)))
