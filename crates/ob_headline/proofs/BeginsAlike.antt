-- The session of the model that a run's statements go on from, beside one that is alike.
use Rattle.ob_headline.proofs.Words.{ap, AreAlike, AreFlat, Base, Config, drawing, fresh, FromEach, headings, headings_of, KeySet, Opened, Option, plain, public_with, Session, session_at, Some, subst, sym, Tables, true, [], ◌∙◌, ◌≡◌}
use Rattle.ob_headline.proofs.AlikeSessions.{SessionsAlike}
use Rattle.ob_headline.proofs.FlatLemmas.{rested_flat}
use Rattle.ob_headline.proofs.InStep.{InStep}
use Rattle.ob_headline.specs.Bases.{Rested, reopened}

-- what is said of each session that the run may go on from holds of this one
pub record Begins (keys : KeySet) (base : Base) (t : Session) : Type 1 where
  pub tables : Tables
  pub alike : SessionsAlike (drawing keys (session_at base tables)) t
  pub from : (P : Session → Type 0) → FromEach base P → P (session_at base tables)

module _ (settings : Option Config) (config : Config) (set : settings ≡ Some config) (keeps : config.keep ≡ true) (keys : KeySet) (base : Base) (t : Session) (same : plain t.public ≡ plain (public_with settings)) (flat : AreFlat (headings t.tables)) (step : InStep t) where
  pub begins_anew : base ≡ fresh (Some config) → AreAlike [] t.tables → Begins keys base t
  begins_anew is alike = record {
    tables = [];
    alike = record {
      settings = ap (λ (b : Base). plain b.public) is ∙ sym (ap (λ (o : Option Config). plain (public_with o)) set) ∙ sym same;
      kept = ap (λ (b : Base). b.public.keep) is ∙ keeps;
      tables = alike;
      flat = tt;
      flat_too = flat;
      here = ap (λ (b : Base). headings_of b.public.tables) (sym is);
      there = step;
    };
    from = λ P. subst (λ (b : Base). FromEach b P → P (session_at b [])) (sym is) (λ each. each);
  }

  pub begins_reopened : (o : Opened) (tables : Tables) → base ≡ reopened config o → Rested o tables → headings tables ≡ headings_of base.public.tables → AreAlike tables t.tables → Begins keys base t
  begins_reopened o tables is rested listed alike = record {
    tables = tables;
    alike = record {
      settings = ap (λ (b : Base). plain b.public) is ∙ sym (ap (λ (c : Option Config). plain (public_with c)) set) ∙ sym same;
      kept = ap (λ (b : Base). b.public.keep) is ∙ keeps;
      tables = alike;
      flat = rested_flat o.keys o.closing o.old.kept tables rested.rests;
      flat_too = flat;
      here = listed;
      there = step;
    };
    from = λ P. subst (λ (b : Base). FromEach b P → P (session_at b tables)) (sym is) (λ each. each tables rested);
  }
