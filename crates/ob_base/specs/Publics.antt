-- What is public before the first statement.
use Rattle.std.specs.Prelude.{[], None}
use Rattle.ob_base.specs.declared.config.Config.{Config}
use Rattle.ob_base.specs.declared.config.Public.{Public}

-- no tables, none saved, and nothing asked
abbrev pub first_public : Config → Public
first_public config =
    record {
      tables = [];
      next_region = 1;
      buffer = config.buffer;
      depth = config.depth;
      pack = config.pack;
      planner = config.planner;
      pad = config.pad;
      stash = config.stash;
      keep = config.keep;
      save = config.save;
      batch = config.batch;
      closing = None;
    }
