use Rattle.pdqd.proofs.asking.know_shapes.Goals as goal

pub returns : goal.returns
returns c = record { shapes = c.dict-dict.ensures.stored.tables.same }
