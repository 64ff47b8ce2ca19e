-- INSERTs that are served together: what begins a batch and goes into it, and that they mean the same while they aren't late.
use Rattle.std.proofs.Common.{◌≡◌, ℕ, ◌+◌, ◌-◌, ◌^◌, ◌≤◌, ◌<◌, Bool, true, false, List, [], ◌∷◌, length, Option, Some, None, Ok, Err, refl, sym, ◌∙◌, ap, arith}
use Rattle.std.specs.Prelude.{IsSome, bytes_eq, is_some, max, min, nat_le, nat_lt, ◌&&◌, if◌then◌else◌}
use Rattle.std.specs.List.{All}
use Rattle.std.specs.Option.{is_none, option_map_or, option_or}
use Rattle.std.proofs.lemmas.Bool.{and_parts, leb-true, ltb-true, not-true}
use Rattle.std.proofs.lemmas.Bool.Decides.{nat_tests}
use Rattle.std.proofs.lemmas.List.Elements.{All-head, All-tail}
use Rattle.std.proofs.lemmas.Slice.Eq.{bytes_eq-Decides}
use Rattle.ob_base.specs.declared.config.Public.{Public}
use Rattle.ob_base.specs.declared.refusal.Refusal.{Refusal}
use Rattle.ob_base.specs.declared.schema.Heading.{Heading}
use Rattle.ob_base.specs.declared.seen.End.TheVariants.{Batched, Static}
use Rattle.ob_base.specs.declared.skeleton.Skeleton.{Skeleton}
use Rattle.ob_base.specs.declared.skeleton.Skeleton.TheVariants.{Create as CreateSkeleton, Insert as InsertSkeleton, Update as UpdateSkeleton, Delete as DeleteSkeleton, Drop as DropSkeleton, Rows, Groups}
use Rattle.ob_base.specs.Stored.{headings, headings_of}
use Rattle.ob_script.proofs.Unasked.{static_stays, stays_public}
use Rattle.ob_script.specs.Script.{script}
use Rattle.ob_script.specs.Trace.{Served, next}
use Rattle.ob_sql.specs.declared.stmt.Stmt.{Stmt}
use Rattle.ob_sql.specs.declared.stmt.Stmt.TheVariants.{Create, Insert, Update, Delete, Drop as DropTable, SelectRows as RowsStmt, SelectTotals as TotalsStmt}
use Rattle.ob_sql.specs.Skeleton.{skeleton}
use Rattle.ob_mean.specs.Batches.{Gathering, batch_most, begins_batch, gathering_after, goes_into, inserts_flat, inserts_into, is_unrefused, joins_in, leaves_room, settle_all, verdicts}
use Rattle.ob_mean.specs.Refusals.{Limits, early_refusal, limits_of}
use Rattle.ob_mean.specs.Replay.{Alone, CutWith, How, IsMember, Session, Spelt, With, after, all_served, draws_taken, how_now, hows, is_access, is_full_now, seen_now, seen_or_cut, served, served_full}
use Rattle.ob_mean.specs.Settle.{settle, settle_served, settled}
use Rattle.ob_mean.specs.Step.{accepted_answer, answered, followed, refusal_of}
use Rattle.ob_mean.specs.Verdict.{Accessed, Draws, Tables, accessed, accessed_now, database, ended, gone, is_late, refusal, verdict}
use Rattle.ob_mean.proofs.VerdictLemmas.{accessed_late, refused_early, seen_early}

-- ---- what begins a batch
none_is : {A : Type 0} (o : Option A) → is_none o ≡ true → o ≡ None
none_is None is = refl
none_is (Some x) is = absurd (cc is)

flat_insert : (p : Public) (s : Skeleton) → inserts_flat p s ≡ true → IsSome (inserts_into s) × (is_access p s ≡ false)
flat_insert p (InsertSkeleton table cs) is = (refl, not-true (is_access p (InsertSkeleton table cs)) is)
flat_insert p other is = absurd (cc is)

-- as many as the settings let one batch have
abbrev most_of : Public → (m : ℕ) → ℕ
most_of p m = max 1 (min m (p.buffer - p.pack))

batched_by : (f : ℕ → ℕ) (o : Option ℕ) → 2 ≤ option_map_or f o 1 → IsSome o
batched_by f None most = absurd (omega (arith, most))
batched_by f (Some m) most = refl

pub record Begins (p : Public) (m : ℕ) (stmt : Stmt) : Type 0 where
  pub most : 2 ≤ batch_most p
  pub batched : IsSome p.batch
  pub room : m + 2 ^ 50 < 2 ^ 63
  pub inserts : IsSome (inserts_into (skeleton stmt))
  pub flat : is_access p (skeleton stmt) ≡ false
  pub accepted : early_refusal (is_late m) (limits_of p) (headings_of p.tables) stmt ≡ None

pub begins : (p : Public) (m : ℕ) (stmt : Stmt) → begins_batch p m stmt ≡ true → Begins p m stmt
begins p m stmt is =
    let last = and_parts (nat_le 2 (batch_most p) && leaves_room m && inserts_flat p (skeleton stmt)) (is_unrefused p m stmt) is in
    let third = and_parts (nat_le 2 (batch_most p) && leaves_room m) (inserts_flat p (skeleton stmt)) last.0 in
    let first = and_parts (nat_le 2 (batch_most p)) (leaves_room m) third.0 in
    let most = leb-true 2 (batch_most p) first.0 in
    let flat = flat_insert p (skeleton stmt) third.1 in
    record {
      most = most;
      batched = batched_by (most_of p) p.batch most;
      room = ltb-true (m + 2 ^ 50) (2 ^ 63) first.1;
      inserts = flat.0;
      flat = flat.1;
      accepted = none_is (early_refusal (is_late m) (limits_of p) (headings_of p.tables) stmt) last.1;
    }

-- ---- what goes into it
pub record GoesIn (p : Public) (g : Option Gathering) (s : Skeleton) : Type 0 where
  pub gathering : Gathering
  pub is : g ≡ Some gathering
  pub batched : IsSome p.batch
  pub room : gathering.count < batch_most p
  pub same : inserts_into s ≡ Some gathering.table

named_by : (table : List ℕ) (o : Option (List ℕ)) → option_map_or (bytes_eq table) o false ≡ true → o ≡ Some table
named_by table None is = absurd (cc is)
named_by table (Some name) is = ap Some (sym ((bytes_eq-Decides table name).0 is))

pub goes_in : (p : Public) (g : Option Gathering) (s : Skeleton) → goes_into p g s ≡ true → GoesIn p g s
goes_in p None s is = absurd (cc is)
goes_in p (Some g) s is =
    let last = and_parts (is_some p.batch && nat_lt g.count (batch_most p)) (option_map_or (bytes_eq g.table) (inserts_into s) false) is in
    let first = and_parts (is_some p.batch) (nat_lt g.count (batch_most p)) last.0 in
    record {
      gathering = g;
      is = refl;
      batched = first.0;
      room = ltb-true g.count (batch_most p) first.1;
      same = named_by g.table (inserts_into s) last.1;
    }

some_in : (f : ℕ → ℕ) (o : Option ℕ) → ((m : ℕ) → 1 ≤ f m) → 1 ≤ option_map_or f o 1
some_in f None some = omega arith
some_in f (Some m) some = some m

pub most_some : (p : Public) → 1 ≤ batch_most p
most_some p = some_in (most_of p) p.batch (λ m. omega arith)

-- ---- where batches aren't asked for
module _ (p : Public) (alone : p.batch ≡ None) where
  pub none_begin : (m : ℕ) (stmt : Stmt) → begins_batch p m stmt ≡ false
  none_begin m stmt =
      ap (λ (o : Option ℕ). nat_le 2 (option_map_or (most_of p) o 1) && leaves_room m && inserts_flat p (skeleton stmt) && is_unrefused p m stmt) alone

  pub none_join : (g : Option Gathering) (s : Skeleton) → goes_into p g s ≡ false
  none_join None s = refl
  none_join (Some g) s = ap (λ (o : Option ℕ). is_some o && nat_lt g.count (batch_most p) && option_map_or (bytes_eq g.table) (inserts_into s) false) alone

-- ---- not late
pub soon : (m n : ℕ) → m + 2 ^ 50 < 2 ^ 63 → n ≤ 2 ^ 50 → is_late (m + n) ≡ false
soon m n room few = let early : m + n < 2 ^ 63 = omega (arith, room, few) in grind (arith, nat_tests)

-- ---- an INSERT means the same, by other settings and after other accesses, while both are late or neither
abbrev pub Inserts : Stmt → Type 0
Inserts stmt = IsSome (inserts_into (skeleton stmt))

-- it looks at no limit
pub early_like : (late : Bool) (limits given : Limits) (hs : List Heading) (stmt : Stmt) → Inserts stmt → early_refusal late limits hs stmt ≡ early_refusal late given hs stmt
early_like late limits given hs (Insert table columns values) inserts = refl
early_like late limits given hs other inserts = absurd (cc inserts)

module _ (p q : Public) (m n : ℕ) (late : is_late m ≡ is_late n) where
  refusal_like : (ts : Tables) (stmt : Stmt) → Inserts stmt → refusal p m ts stmt ≡ refusal q n ts stmt
  refusal_like ts (Insert table columns values) inserts = ap (λ (b : Bool). option_or (refusal_of b (limits_of p) (database ts) (Insert table columns values)) None) late
  refusal_like ts other inserts = absurd (cc inserts)

  settled_like : (d : Draws) (ts : Tables) (stmt : Stmt) → Inserts stmt → settled d p ts stmt ≡ settled d q ts stmt
  settled_like d ts (Insert table columns values) inserts = refl
  settled_like d ts other inserts = absurd (cc inserts)

  pub verdict_like : (ts : Tables) (stmt : Stmt) → Inserts stmt → verdict p m ts stmt ≡ verdict q n ts stmt
  verdict_like ts stmt inserts = ap (λ (r : Option Refusal). answered r (accepted_answer (database ts) stmt)) (refusal_like ts stmt inserts)

  now_like : (ts : Tables) (stmt : Stmt) → Inserts stmt → accessed_now p m ts stmt ≡ accessed_now q n ts stmt
  now_like ts stmt inserts =
      ap (λ (r : Option Refusal). if is_some r then None else accessed ts stmt)
      (early_like (is_late m) (limits_of p) (limits_of q) (headings ts) stmt inserts ∙ ap (λ (b : Bool). early_refusal b (limits_of q) (headings ts) stmt) late)

  served_like : (d : Draws) (o : Option Accessed) (ts : Tables) (stmt : Stmt) → Inserts stmt → settle_served d o p m ts stmt ≡ settle_served d o q n ts stmt
  served_like d None ts stmt inserts = λ i. followed (refusal_like ts stmt inserts i) (settled_like d ts stmt inserts i) ts
  served_like d (Some a) ts stmt inserts = refl

  pub settle_like : (d : Draws) (ts : Tables) (stmt : Stmt) → Inserts stmt → settle d p m ts stmt ≡ settle d q n ts stmt
  settle_like d ts stmt inserts =
      ap (λ (o : Option Accessed). settle_served d o p m ts stmt) (now_like ts stmt inserts)
      ∙ served_like d (accessed_now q n ts stmt) ts stmt inserts

  pub settle_all_like : (d : Draws) (stmts : List Stmt) (ts : Tables) → All Inserts stmts → settle_all d p m stmts ts ≡ settle_all d q n stmts ts
  settle_all_like d [] ts inserts = refl
  settle_all_like d (stmt ∷ stmts) ts inserts =
      settle_all_like d stmts (settle d p m ts stmt) (All-tail Inserts stmt stmts inserts)
      ∙ ap (settle_all d q n stmts) (settle_like d ts stmt (All-head Inserts stmt stmts inserts))

  pub verdicts_like : (d : Draws) (stmts : List Stmt) (ts : Tables) → All Inserts stmts → verdicts d p m stmts ts ≡ verdicts d q n stmts ts
  verdicts_like d [] ts inserts = refl
  verdicts_like d (stmt ∷ stmts) ts inserts =
      let rest = verdicts_like d stmts (settle d p m ts stmt) (All-tail Inserts stmt stmts inserts)
      ∙ ap (verdicts d q n stmts) (settle_like d ts stmt (All-head Inserts stmt stmts inserts)) in
      λ i. verdict_like ts stmt (All-head Inserts stmt stmts inserts) i ∷ rest i

-- ---- the session after one that asks nothing
-- what an INSERT leaves that was served with the one before it
pub after_with : (s : Session) (stmt : Stmt)
    → after With s stmt ≡ record { public = s.public; tables = settle s.draws s.public s.asked s.tables stmt; asked = s.asked; draws = s.draws }
after_with s stmt =
    let asked : s.asked + 0 ≡ s.asked = omega arith in
    let drawn : s.draws.drawn + 0 ≡ s.draws.drawn = omega arith in
    λ i. record {
      public = stays_public s.public (skeleton stmt) (ended Batched) refl i;
      tables = settle s.draws s.public s.asked s.tables stmt;
      asked = asked i;
      draws = record s.draws { drawn = drawn i };
    }

pub after_cut_with : (s : Session) (stmt : Stmt) → after CutWith s stmt ≡ s
after_cut_with s stmt =
    let asked : s.asked + 0 ≡ s.asked = omega arith in
    let drawn : s.draws.drawn + 0 ≡ s.draws.drawn = omega arith in
    λ i. record {
      public = stays_public s.public (skeleton stmt) (ended Batched) refl i;
      tables = s.tables;
      asked = asked i;
      draws = record s.draws { drawn = drawn i };
    }

-- and one that is refused before any access
pub settle_refused : (d : Draws) (p : Public) (m : ℕ) (ts : Tables) (stmt : Stmt) (r : Refusal) → early_refusal (is_late m) (limits_of p) (headings ts) stmt ≡ Some r → settle d p m ts stmt ≡ ts
settle_refused d p m ts stmt r early =
    ap (λ (o : Option Refusal). settle_served d (if is_some o then None else accessed ts stmt) p m ts stmt) early
    ∙ ap (λ (o : Option Refusal). followed o (settled d p ts stmt) ts) (refused_early p m ts stmt r early)

pub after_refused : (s : Session) (stmt : Stmt) (r : Refusal) → early_refusal (is_late s.asked) (limits_of s.public) (headings s.tables) stmt ≡ Some r → after Alone s stmt ≡ s
after_refused s stmt r early =
    let static : seen_now s stmt ≡ ended Static = seen_early s.public s.asked s.tables stmt r early s.draws in
    let asked : s.asked + 0 ≡ s.asked = omega arith in
    let drawn : s.draws.drawn + 0 ≡ s.draws.drawn = omega arith in
    (λ i. record {
      public = next s.public (skeleton stmt) (static i);
      tables = settle_refused s.draws s.public s.asked s.tables stmt r early i;
      asked = s.asked + length (script s.public (skeleton stmt) (static i));
      draws = record s.draws { drawn = s.draws.drawn + draws_taken s.public (skeleton stmt) (static i).end };
    })
    ∙ (λ i. record {
      public = static_stays s.public (skeleton stmt) i;
      tables = s.tables;
      asked = asked i;
      draws = record s.draws { drawn = drawn i };
    })

-- ---- texts one by one
-- no access of it meets a full stash
pub member_room : (s : Session) (stmt : Stmt) → IsMember s stmt → is_full_now s stmt ≡ false
member_room s stmt member =
    ap (λ (o : Option Accessed). option_map_or (λ a. is_none (gone s.draws a)) o false)
    (accessed_late s.public s.asked s.tables stmt member.early ∙ member.unkeyed)

-- where batches aren't asked for, each is served by itself
pub how_alone : (g : Option Gathering) (s : Session) (stmt : Stmt) → s.public.batch ≡ None → how_now g s stmt ≡ Alone
how_alone g s stmt alone = ap (λ (b : Bool). if b && is_unrefused s.public s.asked stmt then With else Alone) (none_join s.public alone g (skeleton stmt))

pub served_alone : (g : Option Gathering) (s : Session) (texts : List Spelt) → s.public.batch ≡ None → all_served s texts (hows g s texts) ≡ all_served s texts []
served_alone g s [] alone = refl
served_alone g s (Err at ∷ texts) alone = served_alone None s texts alone
served_alone g s (Ok stmt ∷ texts) alone =
    let how = how_now g s stmt in
    let rest = served_alone (gathering_after s.public s.asked g stmt (seen_or_cut how s stmt).end) (after how s stmt) texts alone in
    ap (λ (all : List Served). if is_full_now s stmt then served_full s stmt ∷ [] else served how s stmt ∷ all) rest
    ∙ ap (λ (h : How). if is_full_now s stmt then served_full s stmt ∷ [] else served h s stmt ∷ all_served (after h s stmt) texts []) (how_alone g s stmt alone)
