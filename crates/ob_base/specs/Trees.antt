-- Trees of tests that are joined by NOT, AND and OR, and by what a proof tells two of them apart.
use Rattle.std.specs.Prelude.{◌≡◌}
use Rattle.std.specs.Coded.{Coded}
use Rattle.std.proofs.Common.{ap}
use base.Stored.{Gv, gnum, gcons}

pub data Tree (A : Type 0) : Type 0 where
  Test : (a : A) → Tree A
  Not : (p : Tree A) → Tree A
  And : (p q : Tree A) → Tree A
  Or : (p q : Tree A) → Tree A

module _ {A : Type 0} (test : Coded A) where
  abbrev pub code : Tree A → Gv
  code (Test a) = gcons (gnum 0) (test.code a)
  code (Not p) = gcons (gnum 1) (code p)
  code (And p q) = gcons (gnum 2) (gcons (code p) (code q))
  code (Or p q) = gcons (gnum 3) (gcons (code p) (code q))

  pub code_inj : (x y : Tree A) → code x ≡ code y → x ≡ y
  code_inj (Test a) (Test b) h = ap Test (test.inj a b (cc))
  code_inj (Test a) (Not q) h = cc
  code_inj (Test a) (And q r) h = cc
  code_inj (Test a) (Or q r) h = cc
  code_inj (Not p) (Test b) h = cc
  code_inj (Not p) (Not q) h = ap Not (code_inj p q (cc))
  code_inj (Not p) (And q r) h = cc
  code_inj (Not p) (Or q r) h = cc
  code_inj (And p s) (Test b) h = cc
  code_inj (And p s) (Not q) h = cc
  code_inj (And p s) (And q r) h =
      let e : p ≡ q = code_inj p q (cc) in let f : s ≡ r = code_inj s r (cc) in λ i. And (e i) (f i)
  code_inj (And p s) (Or q r) h = cc
  code_inj (Or p s) (Test b) h = cc
  code_inj (Or p s) (Not q) h = cc
  code_inj (Or p s) (And q r) h = cc
  code_inj (Or p s) (Or q r) h =
      let e : p ≡ q = code_inj p q (cc) in let f : s ≡ r = code_inj s r (cc) in λ i. Or (e i) (f i)

  abbrev pub tree_code : Coded (Tree A)
  tree_code = record { code = code; inj = code_inj }
