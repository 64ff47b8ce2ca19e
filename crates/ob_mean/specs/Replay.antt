-- What a list of texts answers, and what is seen of each statement.
use Rattle.std.specs.Prelude.{◌≡◌, ℕ, ◌+◌, ◌-◌, ◌≤◌, Bool, true, false, ◌&&◌, nat_le, nat_lt, List, [], ◌∷◌, length, Option, Some, None, IsSome, Result, Ok, Err, if◌then◌else◌, ⊤}
use Rattle.ob_base.specs.declared.config.Public.{Public}
use Rattle.std.specs.Option.{option_map_or}
use Rattle.ob_base.specs.Indexes.{by_shape, height_of, path_blocks}
use Rattle.ob_base.specs.Stored.{headings, headings_of}
use Rattle.ob_base.specs.declared.refusal.Refusal.TheVariants.{Syntax, StoreFault}
use Rattle.ob_base.specs.declared.seen.Seen.{Seen}
use Rattle.ob_base.specs.declared.seen.End.{End}
use Rattle.ob_base.specs.declared.seen.End.TheVariants.{Static, Whole, Batched, Cut}
use Rattle.ob_base.specs.declared.skeleton.Source.TheVariants.{Table as OneTable, Join}
use Rattle.ob_base.specs.declared.skeleton.Skeleton.{Skeleton}
use Rattle.ob_base.specs.declared.skeleton.Skeleton.TheVariants.{Create as CreateSkeleton, Insert as InsertSkeleton, Update as UpdateSkeleton, Delete as DeleteSkeleton, Rows}
use Rattle.ob_sql.specs.declared.stmt.Stmt.{Stmt}
use Rattle.ob_sql.specs.Skeleton.{skeleton}
use Rattle.ob_script.specs.Script.{script, whole_script}
use Rattle.ob_script.specs.Trace.{Served, next}
use Rattle.ob_mean.specs.declared.answer.Answer.{Answer}
use Rattle.ob_mean.specs.declared.answer.Answer.TheVariants.{Refused}
use Rattle.ob_mean.specs.Batches.{Gathering, gathering_after, goes_into, inserts_into, is_unrefused}
use Rattle.ob_mean.specs.Refusals.{early_refusal, is_index, limits_of}
use Rattle.ob_mean.specs.Verdict.{Draws, Tables, accessed, is_full, verdict, seen, ended, is_late}
use Rattle.ob_mean.specs.Settle.{settle}

-- what is public, the tables, how many accesses were asked, and what is drawn
pub record Session : Type 0 where
  pub public : Public
  pub tables : Tables
  pub asked : ℕ
  pub draws : Draws

-- what a text spells: a statement, or the place of its syntax refusal
abbrev pub Spelt : Type 0
Spelt = Result Stmt ℕ

abbrev pub seen_now : Session → Stmt → Seen
seen_now s stmt = seen s.draws s.public s.asked s.tables stmt

abbrev pub is_full_now : Session → Stmt → Bool
is_full_now s stmt = is_full s.draws s.public s.asked s.tables stmt

-- ---- a statement that was cut off
-- the accesses until the rows are counted
abbrev pub count_end : Public → Skeleton → ℕ
count_end p s = length (whole_script (record p { pad = None }) s (ended Whole))

-- a SELECT over a join ends with an access of its own
abbrev pub ending_len : Skeleton → ℕ
ending_len (Rows (Join a b on equals) columns) = 1
ending_len _ = 0

-- the accesses until the result of the first plan has been read back; it is discarded after them
abbrev pub walk_end : Public → Skeleton → Seen → ℕ
walk_end p s seen = length (whole_script p s (record seen { then = None })) - (ending_len s + 1)

-- ---- an access of an index
abbrev pub has_index : Public → List ℕ → Bool
has_index p name = is_index (headings_of p.tables) name

-- a statement that isn't refused before its first access accesses an index: so much follows from what is public
abbrev pub is_access : Public → Skeleton → Bool
is_access p (InsertSkeleton table columns) = has_index p table
is_access p (UpdateSkeleton table columns) = has_index p table
is_access p (DeleteSkeleton table) = has_index p table
is_access p (Rows (OneTable name) columns) = has_index p name
is_access p _ = false

-- how many of n accesses were carried out, where the last of them failed or didn't
abbrev pub done_of : (failed : Bool) → (n : ℕ) → ℕ
done_of failed n = if failed then n - 1 else n

abbrev pub held_if : {A : Type 0} → Bool → Option A → Option A
held_if b o = if b then o else None

-- what is seen of a statement that was cut off after n accesses, of which the last failed or didn't: k and the plan
-- once the count has ended, the second plan once the first one's result has been read back, the leaf of an access once more
-- was asked than its stash, also where the last was a read that failed
abbrev pub cut_at : (failed : Bool) → (n : ℕ) → Public → Skeleton → Seen → Seen
cut_at failed n p s seen =
    record {
      k = held_if (nat_le (count_end p s) (done_of failed n)) seen.k;
      plan = held_if (nat_le (count_end p s) (done_of failed n)) seen.plan;
      then = held_if (nat_le (walk_end p s seen) (done_of failed n)) seen.then;
      leaf = held_if (nat_lt p.stash n) seen.leaf;
      end = Cut n;
    }

-- ---- how a statement was served
-- by itself, to its end, or cut off by the store after so many accesses; or in the pass of an INSERT before it, which came
-- to its end, or was cut off
pub data How : Type 0 where
  Alone : How
  CutAfter : (n : ℕ) → How
  With : How
  CutWith : How

-- what is seen of it, where the last access of one that was cut off failed
abbrev pub seen_or_cut : How → Session → Stmt → Seen
seen_or_cut Alone s stmt = seen_now s stmt
seen_or_cut (CutAfter n) s stmt = cut_at true n s.public (skeleton stmt) (seen_now s stmt)
seen_or_cut With s stmt = ended Batched
seen_or_cut CutWith s stmt = ended Batched

abbrev pub served : How → Session → Stmt → Served
served how s stmt = record { skeleton = skeleton stmt; seen = seen_or_cut how s stmt }

-- the reads of an access, after which a full stash ends the session
abbrev pub reads_of : Session → Stmt → ℕ
reads_of s stmt = option_map_or (λ a. s.public.stash + path_blocks (height_of a.table.heading.capacity)) (accessed s.tables stmt) 0

abbrev pub served_full : Session → Stmt → Served
served_full s stmt = record { skeleton = skeleton stmt; seen = cut_at false (reads_of s stmt) s.public (skeleton stmt) (seen_now s stmt) }

-- a statement that the store cut off changes no table
abbrev pub settle_or_cut : How → Session → Stmt → Tables
settle_or_cut Alone s stmt = settle s.draws s.public s.asked s.tables stmt
settle_or_cut (CutAfter n) s stmt = s.tables
settle_or_cut With s stmt = settle s.draws s.public s.asked s.tables stmt
settle_or_cut CutWith s stmt = s.tables

-- the numbers that a statement draws: of a new index one for each key, of an access one
abbrev pub drawn_by : Public → Skeleton → ℕ
drawn_by p (CreateSkeleton table columns capacity shape) = by_shape shape 0 capacity
drawn_by p s = if is_access p s then 1 else 0

abbrev pub draws_taken : Public → Skeleton → End → ℕ
draws_taken p s Static = 0
draws_taken p s Batched = 0
draws_taken p s end = drawn_by p s

abbrev pub after : How → Session → Stmt → Session
after how s stmt = record {
  public = next s.public (skeleton stmt) (seen_or_cut how s stmt);
  tables = settle_or_cut how s stmt;
  asked = s.asked + length (script s.public (skeleton stmt) (seen_or_cut how s stmt));
  draws = record s.draws { drawn = s.draws.drawn + draws_taken s.public (skeleton stmt) (seen_or_cut how s stmt).end };
}

abbrev pub answer_or_cut : How → Session → Stmt → Answer
answer_or_cut Alone s stmt = verdict s.public s.asked s.tables stmt
answer_or_cut (CutAfter n) s stmt = Refused StoreFault
answer_or_cut With s stmt = verdict s.public s.asked s.tables stmt
answer_or_cut CutWith s stmt = Refused StoreFault

-- ---- a whole session: how each text was served
abbrev pub Broken : Type 0
Broken = List How

abbrev pub head_of : Broken → How
head_of [] = Alone
head_of (b ∷ bs) = b

abbrev pub rest_of : Broken → Broken
rest_of [] = []
rest_of (b ∷ bs) = bs

-- where the stash of an index is full, that statement has no answer, and nothing is served after it
abbrev pub answers : Session → List Spelt → Broken → List Answer
answers s [] bs = []
answers s (Ok stmt ∷ texts) bs =
    if is_full_now s stmt then [] else answer_or_cut (head_of bs) s stmt ∷ answers (after (head_of bs) s stmt) texts (rest_of bs)
answers s (Err at ∷ texts) bs = Refused (Syntax at) ∷ answers s texts (rest_of bs)

abbrev pub all_served : Session → List Spelt → Broken → List Served
all_served s [] bs = []
all_served s (Ok stmt ∷ texts) bs =
    if is_full_now s stmt then served_full s stmt ∷ [] else served (head_of bs) s stmt ∷ all_served (after (head_of bs) s stmt) texts (rest_of bs)
all_served s (Err at ∷ texts) bs = all_served s texts (rest_of bs)

abbrev pub after_all : Session → List Spelt → Broken → Session
after_all s [] bs = s
after_all s (Ok stmt ∷ texts) bs = if is_full_now s stmt then s else after_all (after (head_of bs) s stmt) texts (rest_of bs)
after_all s (Err at ∷ texts) bs = after_all s texts (rest_of bs)

-- an INSERT that is not refused before its first access and accesses no index, where batches are asked for
pub record IsMember (s : Session) (stmt : Stmt) : Type 0 where
  pub batched : IsSome s.public.batch
  pub inserts : IsSome (inserts_into (skeleton stmt))
  pub early : early_refusal (is_late s.asked) (limits_of s.public) (headings s.tables) stmt ≡ None
  pub unkeyed : accessed s.tables stmt ≡ None

-- the store cuts off only a statement that is not refused before its first access and accesses no index, at one of its
-- accesses: a failed call in an access of an index ends the session; such an INSERT alone is served with another
abbrev pub IsCutOff : How → Session → Stmt → Type 0
IsCutOff Alone s stmt = ⊤
IsCutOff (CutAfter n) s stmt =
    (early_refusal (is_late s.asked) (limits_of s.public) (headings s.tables) stmt ≡ None)
    × (accessed s.tables stmt ≡ None) × (1 ≤ n) × (n ≤ length (whole_script s.public (skeleton stmt) (seen_now s stmt)))
IsCutOff With s stmt = IsMember s stmt
IsCutOff CutWith s stmt = IsMember s stmt

abbrev pub AreCutOff : Session → List Spelt → Broken → Type 0
AreCutOff s [] bs = bs ≡ []
AreCutOff s (Ok stmt ∷ texts) bs = IsCutOff (head_of bs) s stmt × AreCutOff (after (head_of bs) s stmt) texts (rest_of bs)
AreCutOff s (Err at ∷ texts) bs = (head_of bs ≡ Alone) × AreCutOff s texts (rest_of bs)

-- ---- how texts are served where the store never fails, by what is gathered before them
abbrev pub how_now : Option Gathering → Session → Stmt → How
how_now g s stmt = if goes_into s.public g (skeleton stmt) && is_unrefused s.public s.asked stmt then With else Alone

abbrev pub hows : Option Gathering → Session → List Spelt → Broken
hows g s [] = []
hows g s (Ok stmt ∷ texts) =
    let how = how_now g s stmt in
    how ∷ hows (gathering_after s.public s.asked g stmt (seen_or_cut how s stmt).end) (after how s stmt) texts
hows g s (Err at ∷ texts) = Alone ∷ hows None s texts

-- no tables, and nothing asked
abbrev pub first_session : Public → Session
first_session p = record { public = p; tables = []; asked = 0; draws = record { draw = λ n. 0; drawn = 0 } }
