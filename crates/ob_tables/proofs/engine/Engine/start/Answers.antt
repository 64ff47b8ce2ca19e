use Rattle.ob_tables.proofs.Words.{ap, arith, draw_seed_of, DrawPlace, key_of, KeySet, sym, ◌∙◌}
use Rattle.ob_seal.specs.Draws.{draw_of}
use Rattle.std.proofs.lemmas.Grind.{common_steps}
use Rattle.ob_tables.proofs.TableLemmas.{no_entry, no_tables}
use Rattle.ob_tables.proofs.engine.Engine.start.Goals as goal

pub returns-clause-agrees : goal.returns-clause-agrees
returns-clause-agrees g c = λ s none. record {
  ready = c.new-2.ensures.ready s none;
  next = sym c.new-2.ensures.first;
  settings = record {
    blocks = c.requires.0.blocks;
    most = c.requires.0.most;
    depth_least = c.requires.0.depth_least;
    depth_most = c.requires.0.depth_most;
    pack_least = c.requires.0.pack_least;
    pack_most = c.requires.0.pack_most;
    padded = c.requires.0.padded;
  };
  room = record {
    idle = record {
      free = grind (arith, common_steps, c.in_ok-room.ensures);
      shelf = grind (arith, common_steps, c.in_ok-room.ensures);
      enough = grind (arith, common_steps, c.in_ok-room.ensures, c.requires.0.blocks);
      wide = grind (arith, common_steps, c.in_ok-room.ensures);
    };
    rows = grind (arith, common_steps, c.in_ok-room.ensures);
    pack = grind (arith, common_steps, c.in_ok-room.ensures);
  };
  stash = record { some = c.requires.1.some; few = c.requires.1.few };
  tables = no_tables _ _ _ _ c.new-3.ensures c.new-4.ensures.items c.new-2.ensures.empty;
  fit = λ k x is. absurd (no_entry _ k x c.new-4.ensures.items is);
  aside = λ q none. absurd (cc none);
  seeded =
      ap (λ (p : DrawPlace). p.key) c.new-draws.ensures ∙ ap key_of c.draw_seed.ensures
      ∙ ap (λ (ks : KeySet). key_of (draw_seed_of ks)) (sym c.new-2.ensures.keyed);
  kept = λ keep. c.new-4.ensures.items;
  saved = c.requires.2;
}

pub returns-clause-drawn : goal.returns-clause-drawn
returns-clause-drawn g c = record {
  draw = λ n. ap (λ (ks : KeySet). draw_of ks n) (sym c.new-2.ensures.keyed);
  next = ap (λ (p : DrawPlace). p.next) c.new-draws.ensures;
}
