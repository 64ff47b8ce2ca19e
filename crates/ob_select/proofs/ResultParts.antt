-- The accesses of a result: their number, and where want of memory may come among them.
use Rattle.std.proofs.Common.{◌≡◌, ◌≤◌, ◌+◌, ◌*◌, ◌-◌, ℕ, suc, zero, IsTrue, List, [], ◌∷◌, ◌++◌, length, refl, sym, ◌∙◌, ap, subst, arith, length-append, mul-le-mul}
use Rattle.std.specs.Int.{div_ceil}
use Rattle.std.specs.List.{list_all}
use Rattle.ob_base.specs.declared.access.Access.{Access}
use Rattle.ob_base.specs.declared.access.Access.TheVariants.{Make, Read, Write, Discard, Open}
use Rattle.ob_base.specs.declared.config.Plan.{Plan}
use Rattle.ob_base.specs.declared.config.Plan.TheVariants.{Small, Large, Continuous, Hash}
use Rattle.ob_base.specs.Accesses.{read_at}
use Rattle.ob_base.specs.Lists.{each}
use Rattle.ob_base.specs.Limits.{buffered_blocks}
use Rattle.ob_base.specs.Numbers.{blocks_for}
use Rattle.ob_script.specs.Script.{extent_of, plan_part, result_blocks}
use Rattle.ob_script.specs.Parts.{count_part, emission_part}
use Rattle.ob_script.proofs.Numbers.{length-small_part, length-large_part, length-continuous_part, length-hash_part, length-emission_part}
use Rattle.ob_hash.proofs.Sizes.{blocks_whole}
use Rattle.ob_flat.specs.Words.{blocks_of}
use Rattle.ob_base.specs.declared.config.Public.{Public}
use Rattle.std.proofs.Math.Nat.{le-div_iff_mul-le}
use Rattle.ob_select.specs.Settings.{AreSettings}
use Rattle.ob_select.specs.Memory.{is_reading, starts_with_make}
use Rattle.ob_base.specs.Schemas.{width}
use Rattle.ob_select.specs.Selecting.{Selection, region_of}
use Rattle.ob_select.specs.Results.{Planned, planned, slots_for, fresh_flat, make_part, whole_part}

-- at least one block may be buffered
pub some_buffered : (pack rows : ℕ) → 1 ≤ pack → 3 * pack + 1 ≤ rows → 1 ≤ buffered_blocks pack rows
some_buffered pack rows some enough = (le-div_iff_mul-le {k = pack} {x = 1} {y = rows - 2 * pack} some).1 (omega arith)

pub buffered_some : (p : Public) → AreSettings p → 1 ≤ buffered_blocks p.pack p.buffer
buffered_some p h = some_buffered p.pack p.buffer h.pack_least h.blocks

-- the blocks of the fresh region, as the script counts them
blocks-plan : (r : Planned) (plan : Plan) → 1 ≤ r.selection.public.pack
    → blocks_for r.selection.public.pack (slots_for r plan) ≡ result_blocks r.selection.public plan r.taken (extent_of (region_of r.selection))
blocks-plan r Hash some = blocks_whole r.selection.public.pack (r.taken * r.selection.public.depth) some
blocks-plan r other some = refl

pub blocks-fresh : (r : Planned) (g : ℕ) → 1 ≤ r.selection.public.pack
    → blocks_of r.selection.public.pack (fresh_flat r g) ≡ result_blocks r.selection.public r.plan r.taken (extent_of (region_of r.selection))
blocks-fresh r g some = blocks-plan r r.plan some

-- the whole, with the blocks of the fresh region
pub whole_is : (r : Planned) (g : ℕ) → 1 ≤ r.selection.public.pack
    → make_part r g ++ emission_part g (blocks_of r.selection.public.pack (fresh_flat r g)) ≡ whole_part r g
whole_is r g some = ap (λ (n : ℕ). make_part r g ++ emission_part g n) (blocks-fresh r g some)

-- ---- a make comes first
starts-plan : (r : Planned) (g : ℕ) (plan : Plan) → IsTrue (starts_with_make (plan_part r.selection.public plan r.taken g (extent_of (region_of r.selection))))
starts-plan r g Small = refl
starts-plan r g other = refl

pub starts-make : (r : Planned) (g : ℕ) → IsTrue (starts_with_make (make_part r g))
starts-make r g = starts-plan r g r.plan

pub starts-more : (xs ys : List Access) → IsTrue (starts_with_make xs) → IsTrue (starts_with_make (xs ++ ys))
starts-more [] ys is = absurd (cc is)
starts-more (x ∷ xs) ys is = is

-- ---- reads alone
pub all-join : (xs ys : List Access) → IsTrue (list_all is_reading xs) → IsTrue (list_all is_reading ys) → IsTrue (list_all is_reading (xs ++ ys))
all-join [] ys p q = q
all-join (Read r x ∷ xs) ys p q = all-join xs ys p q
all-join (Discard r ∷ xs) ys p q = all-join xs ys p q
all-join (Open r blocks len ∷ xs) ys p q = absurd (cc p)
all-join (Make r n l ∷ xs) ys p q = absurd (cc p)
all-join (Write r x ∷ xs) ys p q = absurd (cc p)

all-rest : (xs ys : List Access) → IsTrue (list_all is_reading (xs ++ ys)) → IsTrue (list_all is_reading ys)
all-rest [] ys p = p
all-rest (Read r x ∷ xs) ys p = all-rest xs ys p
all-rest (Discard r ∷ xs) ys p = all-rest xs ys p
all-rest (Open r blocks len ∷ xs) ys p = absurd (cc p)
all-rest (Make r n l ∷ xs) ys p = absurd (cc p)
all-rest (Write r x ∷ xs) ys p = absurd (cc p)

all-reads : (g n : ℕ) → IsTrue (list_all is_reading (each n (read_at g)))
all-reads g zero = refl
all-reads g (suc n) = all-join (each n (read_at g)) (read_at g n) (all-reads g n) refl

pub all-emission : (g n : ℕ) → IsTrue (list_all is_reading (emission_part g n))
all-emission g n = all-join (count_part g n) (Discard g ∷ []) (all-reads g n) refl

pub rest-reading : (g n : ℕ) (done rest : List Access) → done ++ rest ≡ emission_part g n → IsTrue (list_all is_reading rest)
rest-reading g n done rest split =
    all-rest done rest (subst (λ (l : List Access). IsTrue (list_all is_reading l)) (sym split) (all-emission g n))

-- ---- how many they are
module _ (r : Planned) (plan : Plan) (g : ℕ) where
  both-plan : length (plan_part r.selection.public plan r.taken g (extent_of (region_of r.selection)) ++ emission_part g (result_blocks r.selection.public plan r.taken (extent_of (region_of r.selection))))
      ≡ length (plan_part r.selection.public plan r.taken g (extent_of (region_of r.selection))) + (result_blocks r.selection.public plan r.taken (extent_of (region_of r.selection)) + 1)
  both-plan = length-append (plan_part r.selection.public plan r.taken g (extent_of (region_of r.selection))) (emission_part g (result_blocks r.selection.public plan r.taken (extent_of (region_of r.selection))))
      ∙ ap (λ (n : ℕ). length (plan_part r.selection.public plan r.taken g (extent_of (region_of r.selection))) + n) (length-emission_part g (result_blocks r.selection.public plan r.taken (extent_of (region_of r.selection))))

module _ (q : Selection) (k g : ℕ) (settings : AreSettings q.public) where
  abbrev pub source : ℕ
  source = blocks_for q.public.pack q.flat.capacity

  abbrev pub results : ℕ
  results = blocks_for q.public.pack k

  pub length_small : length (whole_part (planned q Small k) g) ≡ (div_ceil results (buffered_blocks q.public.pack q.public.buffer) * source + 2 * results) + 2
  length_small = omega (arith, both-plan (planned q Small k) Small g, length-small_part q.flat.region g source results (buffered_blocks q.public.pack q.public.buffer) (q.public.pack * width q.flat.schema) (buffered_some q.public settings))

  pub length_large : length (whole_part (planned q Large k) g) ≡ 5 * source + 2
  length_large = omega (arith, both-plan (planned q Large k) Large g, length-large_part q.flat.region g source (q.public.pack * width q.flat.schema))

  pub length_cont : length (whole_part (planned q Continuous k) g) ≡ ((source + 2 * q.flat.capacity) + 2 * results) + 2
  length_cont = omega (arith, both-plan (planned q Continuous k) Continuous g, length-continuous_part q.flat.region g q.public.pack q.flat.capacity k (q.public.pack * width q.flat.schema) settings.pack_least)

  pub length_hash : length (whole_part (planned q Hash k) g) ≡ ((source + 4 * q.public.depth * q.flat.capacity) + 2 * (k * q.public.depth)) + 2
  length_hash = omega (arith, both-plan (planned q Hash k) Hash g, length-hash_part q.flat.region g q.public.pack q.flat.capacity k q.public.depth (q.public.pack * width q.flat.schema) settings.pack_least)

-- and by settings and a size that are the same
module _ (q : Selection) (p : Public) (n k g : ℕ) (same : q.public ≡ p) (size : q.flat.capacity ≡ n) (settings : AreSettings p) where
  by_settings : AreSettings q.public
  by_settings = subst AreSettings (sym same) settings

  pub small_as : length (whole_part (planned q Small k) g) ≡ (div_ceil (blocks_for p.pack k) (buffered_blocks p.pack p.buffer) * blocks_for p.pack n + 2 * blocks_for p.pack k) + 2
  small_as = length_small q k g by_settings
      ∙ (λ i. (div_ceil (blocks_for (same i).pack k) (buffered_blocks (same i).pack (same i).buffer) * blocks_for (same i).pack (size i) + 2 * blocks_for (same i).pack k) + 2)

  pub large_as : length (whole_part (planned q Large k) g) ≡ 5 * blocks_for p.pack n + 2
  large_as = length_large q k g by_settings ∙ (λ i. 5 * blocks_for (same i).pack (size i) + 2)

  pub cont_as : length (whole_part (planned q Continuous k) g) ≡ ((blocks_for p.pack n + 2 * n) + 2 * blocks_for p.pack k) + 2
  cont_as = length_cont q k g by_settings ∙ (λ i. ((blocks_for (same i).pack (size i) + 2 * size i) + 2 * blocks_for (same i).pack k) + 2)

  pub hash_as : length (whole_part (planned q Hash k) g) ≡ ((blocks_for p.pack n + 4 * p.depth * n) + 2 * (k * p.depth)) + 2
  hash_as = length_hash q k g by_settings ∙ (λ i. ((blocks_for (same i).pack (size i) + 4 * (same i).depth * size i) + 2 * (k * (same i).depth)) + 2)

-- a Small result of few rows takes few accesses
pub few_small : (passes source results n k : ℕ) → passes ≤ results → source ≤ n → results ≤ k → n ≤ 16777216 → k ≤ 16777216 → (passes * source + 2 * results) + 2 ≤ 576460752303423488
few_small passes source results n k p s r m l =
    let a : passes ≤ 16777216 = omega (arith, p, r, l) in
    let b : source ≤ 16777216 = omega (arith, s, m) in
    let all : passes * source ≤ 16777216 * 16777216 = mul-le-mul a b in
    omega (arith, all, r, l)
