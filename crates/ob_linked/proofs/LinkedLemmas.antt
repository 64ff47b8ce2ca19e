-- Trees over two places a bucket.
use Rattle.std.proofs.Common.{◌≡◌, ◌<◌, ◌≢◌, ℕ, ◌+◌, ◌*◌, Bool, true, false, ◌==◌, ◌||◌, ◌⊎◌, inl, inr, List, [], ◌∷◌, ◌++◌, Some, refl, sym, ap, ◌∙◌, subst, arith}
use Rattle.std.specs.Prelude.{not, map, if◌then◌else◌}
use Rattle.std.proofs.lemmas.Bool.{cases_eq, cases_Bool, ne_eqb, eq-eqb, or_left, or_right, or_from, true≢false}
use Rattle.ob_path.specs.Paths.{above}
use Rattle.ob_linked.specs.declared.version.Version.{Version}
use Rattle.ob_linked.specs.Linked.{IsMade, Body, Block, Cells, Tree, Turn, body_at, place_at, place_of, block_at, blocks_of, spare_at, child_in, is_among, IsStoredIn, Opens, Reads, GoesDown, GoesUp, AreApart, IsSealed, AreOf, OnlySpares, AreSpare, AreNew, AreApartFrom, Stands, Life, over, accessed, set, killed, rewritten, turned, turned_all, with_block, with_blocks, side_behind, paths_of}

-- ---- places
not_self : (s : Bool) → s ≡ not s → ⊥
not_self true same = true≢false same
not_self false same = true≢false (sym same)

pub place_same : (b c : ℕ) (s u : Bool) → place_of b s ≡ place_of c u → (b ≡ c) × (s ≡ u)
place_same b c true true same = (omega (arith, same), refl)
place_same b c true false same = absurd (omega (arith, same))
place_same b c false true same = absurd (omega (arith, same))
place_same b c false false same = (omega (arith, same), refl)

-- ---- reading
module _ {A : Type 0} (t : Tree A) where
  child_at : (b c : ℕ) → c ≢ 0 → above c ≡ b → child_in (body_at t b) b c ≡ t.version c
  child_at b c some up = elim (cases_eq c (2 * b + 1)) [
    | inl left ↦ ap (λ test. if test then t.version (2 * b + 1) else t.version (2 * b + 2)) (eq-eqb c (2 * b + 1) left) ∙ ap (λ x. t.version x) (sym left)
    | inr off ↦ ap (λ test. if test then t.version (2 * b + 1) else t.version (2 * b + 2)) (ne_eqb c (2 * b + 1) off) ∙ ap (λ x. t.version x) (right off)
  ]
    where
      right : (c ≡ 2 * b + 1 → ⊥) → 2 * b + 2 ≡ c
      right off = omega (arith, up, some, off)

module _ {A : Type 0} (made : List (Block A)) (apart : AreApart made) (n : ℕ) (t : Tree A) (is_sealed : IsSealed made n t) (cells : Cells A) (of : AreOf made cells) where
  opened : (b : ℕ) (body : Body A) → b < n → Opens cells b (t.version b) body → body ≡ body_at t b
  opened b body within lay =
      let s : Block A = record { at = place_at t b; version = t.version b; body = body } in
      ap (λ (x : Block A). x.body) (apart.apart s (block_at t b) (of.each (place_at t b) s lay) (is_sealed.each b within) refl refl)

  pub reads_are : (b : ℕ) (below : List ℕ) → GoesDown n b below → (bodies : List (Body A)) → Reads cells b (t.version b) below bodies → bodies ≡ map (body_at t) (b ∷ below)
  reads_are b [] within [] reads = absurd reads
  reads_are b [] within (body ∷ bodies) (lay, none) = ap (λ x. x ∷ bodies) (opened b body within lay) ∙ ap (λ xs. body_at t b ∷ xs) none
  reads_are b (c ∷ below) goes [] reads = absurd reads
  reads_are b (c ∷ below) (within, some, up, down) (body ∷ bodies) (lay, reads) =
      let is : body ≡ body_at t b = opened b body within lay in
      let here : child_in body b c ≡ t.version c = ap (λ x. child_in x b c) is ∙ child_at t b c some up in
      ap (λ x. x ∷ bodies) is ∙ ap (λ xs. body_at t b ∷ xs) (reads_are c below down bodies (subst (λ v. Reads cells c v below bodies) here reads))

-- ---- writing
among_first : (c : ℕ) (path : List ℕ) → is_among (c ∷ path) c ≡ true
among_first c path = or_left (c == c) (is_among path c) (eq-eqb c c refl)

among_more : (c b : ℕ) (path : List ℕ) → is_among path b ≡ true → is_among (c ∷ path) b ≡ true
among_more c b path there = or_right (c == b) (is_among path b) there

among_left : (b : ℕ) (done rest : List ℕ) → is_among done b ≡ true → is_among (done ++ rest) b ≡ true
among_left b [] rest none = absurd (true≢false (sym none))
among_left b (c ∷ done) rest there = elim (cases_Bool (c == b)) [
  | inl here ↦ or_left (c == b) (is_among (done ++ rest) b) here
  | inr off ↦ or_right (c == b) (is_among (done ++ rest) b) (among_left b done rest (sym (ap (λ x. x || is_among done b) off) ∙ there))
]

module _ {A : Type 0} (t : Tree A) where
  pub stays : (n : ℕ) (path : List ℕ) (old new : Cells A) → IsStoredIn n t old → OnlySpares t path old new → IsStoredIn n t new
  stays n path old new lies only = record { each = λ b within. only.others (place_at t b) (λ c among same. differ b c same) ∙ lies.each b within }
    where
      differ : (b c : ℕ) → place_at t b ≡ spare_at t c → ⊥
      differ b c same =
          let both = place_same b c (t.version b).side (not (t.version c).side) same in
          not_self (t.version b).side (both.1 ∙ ap (λ x. not (t.version x).side) (sym both.0))

  -- a place that is none of a path's buckets is as it was
  pub off_path : (path : List ℕ) (cells : Cells A) (x : ℕ) → ((b : ℕ) → is_among path b ≡ true → x ≢ place_at t b) → with_blocks cells (blocks_of t path) x ≡ cells x
  off_path [] cells x off = refl
  off_path (c ∷ path) cells x off =
      off_path path (with_block cells (block_at t c)) x (λ b there. off b (among_more c b path there))
      ∙ ap (λ test. if test then Some (block_at t c) else cells x) (ne_eqb x (place_at t c) (off c (among_first c path)))

  pub on_path : (path : List ℕ) (cells : Cells A) (b : ℕ) → is_among path b ≡ true → with_blocks cells (blocks_of t path) (place_at t b) ≡ Some (block_at t b)
  on_path [] cells b there = absurd (true≢false (sym there))
  on_path (c ∷ path) cells b there = elim (cases_Bool (is_among path b)) [ inl again ↦ on_path path (with_block cells (block_at t c)) b again | inr last ↦ by_last last ]
    where
      by_last : is_among path b ≡ false → with_blocks (with_block cells (block_at t c)) (blocks_of t path) (place_at t b) ≡ Some (block_at t b)
      by_last last = elim (cases_eq c b) [
        | inl is ↦
            off_path path (with_block cells (block_at t c)) (place_at t b) (λ d among same. true≢false (sym among ∙ ap (is_among path) (sym (place_same b d (t.version b).side (t.version d).side same).0) ∙ last))
            ∙ ap (λ test. if test then Some (block_at t c) else cells (place_at t b)) (eq-eqb (place_at t b) (place_at t c) (ap (place_at t) (sym is)))
            ∙ ap (λ x. Some (block_at t x)) is
        | inr off ↦ absurd (true≢false (sym there ∙ or_from (c == b) (is_among path b) (ne_eqb c b off) last))
      ]

-- a block, by its parts
abbrev pub made_of : {A : Type 0} → ℕ → A → Version → Version → Version → Block A
made_of b rows v left right = record { at = place_of b v.side; version = v; body = record { rows = rows; left = left; right = right } }

module _ {A : Type 0} (t : Tree A) (path : List ℕ) (rows : ℕ → A) (version : ℕ → Version) where
  abbrev pub now : Tree A
  now = rewritten t path rows version

  pub version_off : (b : ℕ) → is_among path b ≡ false → now.version b ≡ t.version b
  version_off b off = ap (λ test. if test then version b else t.version b) off

  pub version_on : (b : ℕ) → is_among path b ≡ true → now.version b ≡ version b
  version_on b on = ap (λ test. if test then version b else t.version b) on

  pub rows_off : (b : ℕ) → is_among path b ≡ false → now.rows b ≡ t.rows b
  rows_off b off = ap (λ test. if test then rows b else t.rows b) off

  pub rows_on : (b : ℕ) → is_among path b ≡ true → now.rows b ≡ rows b
  rows_on b on = ap (λ test. if test then rows b else t.rows b) on

  child_off : (up : GoesUp path) (b c : ℕ) → c ≢ 0 → above c ≡ b → is_among path b ≡ false → is_among path c ≡ false
  child_off up b c some is off = elim (cases_Bool (is_among path c)) [
    | inl on ↦ absurd (true≢false (sym (up c some on) ∙ ap (is_among path) is ∙ off))
    | inr none ↦ none
  ]

  pub same_block : (up : GoesUp path) (b : ℕ) → is_among path b ≡ false → block_at t b ≡ block_at now b
  same_block up b off =
      let v = version_off b off in
      let l = version_off (2 * b + 1) (child_off up b (2 * b + 1) (λ e. omega (arith, e)) (omega arith) off) in
      let r = version_off (2 * b + 2) (child_off up b (2 * b + 2) (λ e. omega (arith, e)) (omega arith) off) in
      ap (λ x. made_of b x (t.version b) (t.version (2 * b + 1)) (t.version (2 * b + 2))) (sym (rows_off b off))
      ∙ ap (λ x. made_of b (now.rows b) x (t.version (2 * b + 1)) (t.version (2 * b + 2))) (sym v)
      ∙ ap (λ x. made_of b (now.rows b) (now.version b) x (t.version (2 * b + 2))) (sym l)
      ∙ ap (λ x. made_of b (now.rows b) (now.version b) (now.version (2 * b + 1)) x) (sym r)

  pub new_lies : (n : ℕ) (cells : Cells A) → IsStoredIn n t cells → GoesUp path → IsStoredIn n now (with_blocks cells (blocks_of now path))
  new_lies n cells lies up = record { each = λ b within. elim (cases_Bool (is_among path b)) [ inl on ↦ on_path now path cells b on | inr off ↦ by_off b within off ] }
    where
      by_off : (b : ℕ) → b < n → is_among path b ≡ false → with_blocks cells (blocks_of now path) (place_at now b) ≡ Some (block_at now b)
      by_off b within off =
          off_path now path cells (place_at now b) (λ c on same. true≢false (sym on ∙ ap (is_among path) (sym (place_same b c (now.version b).side (now.version c).side same).0) ∙ off))
          ∙ ap (λ v. cells (place_of b v.side)) (version_off b off)
          ∙ lies.each b within
          ∙ ap Some (same_block up b off)

-- what is written first of a path goes to places that a tree doesn't need
pub writes_to_spare : {A : Type 0} (m t : Tree A) (done rest : List ℕ) (rows : ℕ → A) (version : ℕ → Version) (cells : Cells A) → AreSpare m (done ++ rest) version
    → OnlySpares m (done ++ rest) cells (with_blocks cells (blocks_of (rewritten t (done ++ rest) rows version) done))
writes_to_spare m t done rest rows version cells spare = record {
  others = λ x off.
      off_path (rewritten t (done ++ rest) rows version) done cells x
      (λ b on same. off b (among_left b done rest on)
      (same ∙ ap (λ (v : Version). place_of b v.side) (version_on t (done ++ rest) rows version b (among_left b done rest on)) ∙ ap (place_of b) (spare.each b (among_left b done rest on))));
}

flips : {A : Type 0} (t : Tree A) (path : List ℕ) (run : ℕ) (number : ℕ → ℕ) → AreSpare t path (λ b. record { side = not (t.version b).side; run = run; number = number b })
flips t path run number = record { each = λ b on. refl }

pub writes_spare : {A : Type 0} (t : Tree A) (done rest : List ℕ) (rows : ℕ → A) (run : ℕ) (number : ℕ → ℕ) (cells : Cells A) → OnlySpares t (done ++ rest) cells (with_blocks cells (blocks_of (turned t (done ++ rest) rows run number) done))
writes_spare t done rest rows run number cells = writes_to_spare t t done rest rows _ cells (flips t (done ++ rest) run number)

pub torn_spare : {A : Type 0} (t : Tree A) (path : List ℕ) (old new : Cells A) (b : ℕ) (s : Block A) → OnlySpares t path old new → is_among path b ≡ true → s.at ≡ spare_at t b → OnlySpares t path old (with_block new s)
torn_spare t path old new b s only on is = record {
  others = λ x off.
      ap (λ test. if test then Some s else new x) (ne_eqb x s.at (λ same. off b on (same ∙ is)))
      ∙ only.others x off;
}

-- ---- many accesses
pub sides : {A : Type 0} (turns : List (Turn A)) (t : Tree A) (b : ℕ) → ((turned_all t turns).version b).side ≡ side_behind (t.version b).side (paths_of turns) b
sides [] t b = refl
sides (turn ∷ turns) t b =
    sides turns (turned t turn.path turn.rows turn.run turn.number) b
    ∙ ap (λ s. side_behind s (paths_of turns) b) (step (cases_Bool (is_among turn.path b)))
  where
    step : (is_among turn.path b ≡ true) ⊎ (is_among turn.path b ≡ false) → ((turned t turn.path turn.rows turn.run turn.number).version b).side ≡ (if is_among turn.path b then not (t.version b).side else (t.version b).side)
    step (inl on) = ap (λ (v : Version). v.side) (version_on t turn.path turn.rows (λ b. record { side = not (t.version b).side; run = turn.run; number = turn.number b }) b on) ∙ sym (ap (λ test. if test then not (t.version b).side else (t.version b).side) on)
    step (inr off) = ap (λ (v : Version). v.side) (version_off t turn.path turn.rows (λ b. record { side = not (t.version b).side; run = turn.run; number = turn.number b }) b off) ∙ sym (ap (λ test. if test then not (t.version b).side else (t.version b).side) off)

-- ---- many runs
append_nothing : (path : List ℕ) → path ++ [] ≡ path
append_nothing [] = refl
append_nothing (b ∷ path) = ap (λ xs. b ∷ xs) (append_nothing path)

made_left : {A : Type 0} (s : Block A) (made more : List (Block A)) → IsMade made s → IsMade (made ++ more) s
made_left s [] more none = absurd none
made_left s (x ∷ made) more (inl is) = inl is
made_left s (x ∷ made) more (inr rest) = inr (made_left s made more rest)

made_right : {A : Type 0} (s : Block A) (made more : List (Block A)) → IsMade more s → IsMade (made ++ more) s
made_right s [] more is = is
made_right s (x ∷ made) more is = inr (made_right s made more is)

made_either : {A : Type 0} (s : Block A) (made more : List (Block A)) → IsMade (made ++ more) s → IsMade made s ⊎ IsMade more s
made_either s [] more is = inr is
made_either s (x ∷ made) more (inl is) = inl (inl is)
made_either s (x ∷ made) more (inr rest) = by (made_either s made more rest)
  where
    by : IsMade made s ⊎ IsMade more s → IsMade (x ∷ made) s ⊎ IsMade more s
    by (inl one) = inl (inr one)
    by (inr two) = inr two

both_apart : {A : Type 0} (made more : List (Block A)) → AreApart made → AreApartFrom made more → AreApart (made ++ more)
both_apart made more one two = record { apart = λ s t is_s is_t at version. by s t (made_either s made more is_s) (made_either t made more is_t) at version }
  where
    by : (s t : Block _) → IsMade made s ⊎ IsMade more s → IsMade made t ⊎ IsMade more t → s.at ≡ t.at → s.version ≡ t.version → s ≡ t
    by s t (inl a) (inl b) at version = one.apart s t a b at version
    by s t (inl a) (inr b) at version = absurd (two.each s t a b version)
    by s t (inr a) (inl b) at version = absurd (two.each t s b a (sym version))
    by s t (inr a) (inr b) at version = two.apart.apart s t a b at version

more_sealed : {A : Type 0} (made more : List (Block A)) (n : ℕ) (t : Tree A) → IsSealed made n t → IsSealed (made ++ more) n t
more_sealed made more n t is = record { each = λ b within. made_left (block_at t b) made more (is.each b within) }

-- the blocks of a path
among_blocks : {A : Type 0} (t : Tree A) (path : List ℕ) (b : ℕ) → is_among path b ≡ true → IsMade (blocks_of t path) (block_at t b)
among_blocks t [] b none = absurd (true≢false (sym none))
among_blocks t (c ∷ path) b there = elim (cases_eq c b) [
  | inl is ↦ inl (ap (block_at t) (sym is))
  | inr off ↦ inr (among_blocks t path b (sym (ap (λ x. x || is_among path b) (ne_eqb c b off)) ∙ there))
]

block_among : {A : Type 0} (t : Tree A) (path : List ℕ) (s : Block A) → IsMade (blocks_of t path) s → (b : ℕ) × (is_among path b ≡ true) × (s ≡ block_at t b)
block_among t [] s none = absurd none
block_among t (c ∷ path) s (inl is) = (c, among_first c path, is)
block_among t (c ∷ path) s (inr rest) = let more = block_among t path s rest in (more.0, among_more c more.0 path more.1, more.2)

module _ {A : Type 0} (t : Tree A) (path : List ℕ) (rows : ℕ → A) (version : ℕ → Version) where
  path_apart : (made : List (Block A)) → AreNew made path version → AreApartFrom made (blocks_of (now t path rows version) path)
  path_apart made new = record {
    apart = record { apart = λ s u is_s is_u at same. by s u (block_among (now t path rows version) path s is_s) (block_among (now t path rows version) path u is_u) at };
    each = λ s u is_s is_u same.
        let b = block_among (now t path rows version) path u is_u in
        new.each b.0 b.1 s is_s (same ∙ ap (λ (x : Block A). x.version) b.2 ∙ version_on t path rows version b.0 b.1);
  }
    where
      by : (s u : Block A) → (b : ℕ) × (is_among path b ≡ true) × (s ≡ block_at (now t path rows version) b) → (c : ℕ) × (is_among path c ≡ true) × (u ≡ block_at (now t path rows version) c) → s.at ≡ u.at → s ≡ u
      by s u (b, on_b, is_b) (c, on_c, is_c) at =
          let same = place_same b c ((now t path rows version).version b).side ((now t path rows version).version c).side (sym (ap (λ (x : Block A). x.at) is_b) ∙ at ∙ ap (λ (x : Block A). x.at) is_c) in
          is_b ∙ ap (block_at (now t path rows version)) same.0 ∙ sym is_c

  now_sealed : (made : List (Block A)) (n : ℕ) → GoesUp path → IsSealed made n t → IsSealed (made ++ blocks_of (now t path rows version) path) n (now t path rows version)
  now_sealed made n up is = record {
    each = λ b within. elim (cases_Bool (is_among path b)) [
      | inl on ↦ made_right (block_at (now t path rows version) b) made (blocks_of (now t path rows version) path) (among_blocks (now t path rows version) path b on)
      | inr off ↦ made_left (block_at (now t path rows version) b) made (blocks_of (now t path rows version) path) (subst (IsMade made) (same_block t path rows version up b off) (is.each b within))
    ];
  }

pub lives : {A : Type 0} (n : ℕ) {m t m2 t2 : Tree A} {c c2 : Cells A} {s s2 : List (Block A)} → Life m t c s m2 t2 c2 s2 → Stands n m t c s → Stands n m2 t2 c2 s2
lives n over stands = stands
lives n {m = m} {t = t} {c = c} {s = s} (accessed path rows version up spare new life) stands = lives n life (record {
  marked = stays m n path c _ stands.marked (subst (λ p. OnlySpares m p c (with_blocks c (blocks_of (rewritten t p rows version) path))) (append_nothing path)
      (writes_to_spare m t path [] rows version c (subst (λ p. AreSpare m p version) (sym (append_nothing path)) spare)));
  current = new_lies t path rows version n c stands.current up;
  apart = both_apart s (blocks_of (rewritten t path rows version) path) stands.apart (path_apart t path rows version s new);
  marked_sealed = more_sealed s (blocks_of (rewritten t path rows version) path) n m stands.marked_sealed;
  current_sealed = now_sealed t path rows version s n up stands.current_sealed;
})
lives n (set life) stands = lives n life (record { marked = stands.current; current = stands.current; apart = stands.apart; marked_sealed = stands.current_sealed; current_sealed = stands.current_sealed })
lives n {m = m} {c = c} {s = s} (killed path more only new life) stands = lives n life (record {
  marked = stays m n path c _ stands.marked only;
  current = stays m n path c _ stands.marked only;
  apart = both_apart s more stands.apart new;
  marked_sealed = more_sealed s more n m stands.marked_sealed;
  current_sealed = more_sealed s more n m stands.marked_sealed;
})
