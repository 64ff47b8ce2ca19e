-- What saving asks reads nothing: a changed block that was read was read before.
use Rattle.ob_exec.proofs.Words.{Access, FalseRead, List, None, Option, ReadsIn, Some, subst, suc, sym, zero, ℕ, [], ◌++◌, ◌∙◌, ◌∷◌, ◌≡◌}
use Rattle.ob_base.specs.Accesses.{drop_script, make_at, write_at}
use Rattle.ob_base.specs.Lists.{each}
use Rattle.ob_base.specs.declared.access.Access.TheVariants.{Discard, Make, Open, Read, Write}

abbrev pub Unread : List Access → Type 0
Unread [] = Unit {0}
Unread (Make q blocks len ∷ rest) = Unread rest
Unread (Read q x ∷ rest) = ⊥
Unread (Write q x ∷ rest) = Unread rest
Unread (Discard q ∷ rest) = Unread rest
Unread (Open q blocks len ∷ rest) = Unread rest

pub unread_both : (a b : List Access) → Unread a → Unread b → Unread (a ++ b)
unread_both [] b none more = more
unread_both (Make q blocks len ∷ a) b none more = unread_both a b none more
unread_both (Read q x ∷ a) b none more = absurd none
unread_both (Write q x ∷ a) b none more = unread_both a b none more
unread_both (Discard q ∷ a) b none more = unread_both a b none more
unread_both (Open q blocks len ∷ a) b none more = unread_both a b none more

-- nor does a first part
pub unread_first : (a b : List Access) → Unread (a ++ b) → Unread a
unread_first [] b none = tt
unread_first (Make q blocks len ∷ a) b none = unread_first a b none
unread_first (Read q x ∷ a) b none = absurd none
unread_first (Write q x ∷ a) b none = unread_first a b none
unread_first (Discard q ∷ a) b none = unread_first a b none
unread_first (Open q blocks len ∷ a) b none = unread_first a b none

-- a closing is made and written, and regions are discarded
unread_writes : (region n : ℕ) → Unread (each n (write_at region))
unread_writes region zero = tt
unread_writes region (suc n) = unread_both (each n (write_at region)) (write_at region n) (unread_writes region n) tt

pub unread_closing : (region blocks size : ℕ) → Unread (make_at region blocks size ++ each blocks (write_at region))
unread_closing region blocks size = unread_writes region blocks

unread_drop : (left : Option ℕ) → Unread (drop_script left)
unread_drop None = tt
unread_drop (Some region) = tt

pub unread_drops : (a b : Option ℕ) → Unread (drop_script a ++ drop_script b)
unread_drops a b = unread_both (drop_script a) (drop_script b) (unread_drop a) (unread_drop b)

-- ---- a read that is in some accesses and more of which none is a read
-- a read is none of the others
has_read : (before rest : List Access) (q x : ℕ) → Unread (before ++ Read q x ∷ rest) → ⊥
has_read [] rest q x none = none
has_read (Make r blocks len ∷ before) rest q x none = has_read before rest q x none
has_read (Read r y ∷ before) rest q x none = none
has_read (Write r y ∷ before) rest q x none = has_read before rest q x none
has_read (Discard r ∷ before) rest q x none = has_read before rest q x none
has_read (Open r blocks len ∷ before) rest q x none = has_read before rest q x none

read_back : (before xs rest more : List Access) (q x : ℕ) → Unread more → before ++ Read q x ∷ rest ≡ xs ++ more → (tail : List Access) × (before ++ Read q x ∷ tail ≡ xs)
read_back before [] rest more q x none is = absurd (has_read before rest q x (subst Unread (sym is) none))
read_back [] (a ∷ xs) rest more q x none is = (xs, cc is)
read_back (b ∷ before) (a ∷ xs) rest more q x none is =
    let first : b ≡ a = cc is in
    let later : before ++ Read q x ∷ rest ≡ xs ++ more = cc is in
    let there = read_back before xs rest more q x none later in
    (there.0, (λ i. first i ∷ there.1 i))

pub reads_back : (lie : FalseRead) (xs more all : List Access) → Unread more → all ≡ xs ++ more → ReadsIn lie all → ReadsIn lie xs
reads_back lie xs more all none is reads =
    let there = read_back lie.before xs reads.rest more lie.region lie.place none (reads.is ∙ is) in
    record { rest = there.0; is = there.1 }
