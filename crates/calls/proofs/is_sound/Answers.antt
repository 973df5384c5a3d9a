-- `calls::is_sound` meets its contract. Assumes nothing.
use mathlib.Core.Path.{sym, ◌∙◌}
use Rattle.calls.proofs.Laws.{fails_counts, fails_map_counts, fails_rules, decides}
use Rattle.calls.proofs.is_sound.Goals as goal

pub returns-then-not-counts_ok : goal.returns-then-not-counts_ok
returns-then-not-counts_ok c = fails_counts _ (sym c.counts_ok.ensures ∙ c.if-not-counts_ok.true)

pub returns-then-not-map_counts_ok : goal.returns-then-not-map_counts_ok
returns-then-not-map_counts_ok c =
    fails_map_counts _ (sym c.counts_ok.ensures ∙ c.if-not-counts_ok.false)
    (sym c.map_counts_ok.ensures ∙ c.if-not-map_counts_ok.true)

pub keeps_rules-requires : goal.keeps_rules-requires
keeps_rules-requires c =
    record { long = c.requires; counts = sym c.counts_ok.ensures ∙ c.if-not-counts_ok.false }

pub returns-then-not-keeps_rules : goal.returns-then-not-keeps_rules
returns-then-not-keeps_rules c =
    fails_rules _ (sym c.counts_ok.ensures ∙ c.if-not-counts_ok.false)
    (sym c.map_counts_ok.ensures ∙ c.if-not-map_counts_ok.false)
    (sym c.keeps_rules.ensures ∙ c.if-not-keeps_rules.true)

pub keeps_map_rules-requires : goal.keeps_map_rules-requires
keeps_map_rules-requires c =
    let h = c.requires in
    record {
      guest = record { long = h; counts = sym c.counts_ok.ensures ∙ c.if-not-counts_ok.false };
      mapping = record { long = h; counts = sym c.map_counts_ok.ensures ∙ c.if-not-map_counts_ok.false };
      rules = sym c.keeps_rules.ensures ∙ c.if-not-keeps_rules.false;
    }

pub returns : goal.returns
returns c =
    decides _ (sym c.counts_ok.ensures ∙ c.if-not-counts_ok.false)
    (sym c.map_counts_ok.ensures ∙ c.if-not-map_counts_ok.false)
    (sym c.keeps_rules.ensures ∙ c.if-not-keeps_rules.false) c.keeps_map_rules.ensures
