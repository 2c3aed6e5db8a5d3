use Rattle.std.proofs.Common.{◌∙◌}
use Rattle.pdqd.proofs.GivenBack.{gives_most, gives_whole}
use Rattle.pdqd.proofs.grant_tests.granted_text.Goals as goal

pub give_back-requires-clause-whole : goal.give_back-requires-clause-whole
give_back-requires-clause-whole g c = gives_whole _ _ c.args.frames _ c.in_ok-pool.ensures.value c.grant-region.ensures.pool

pub give_back-requires-clause-most : goal.give_back-requires-clause-most
give_back-requires-clause-most g c = gives_most _ _ c.args.frames _ c.in_ok-pool.ensures.value c.grant-region.ensures.pool (c.evaluate-region.ensures.region ∙ c.grant-region.ensures.frames)
