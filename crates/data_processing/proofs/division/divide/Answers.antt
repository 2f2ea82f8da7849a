use Rattle.data_processing.proofs.division.divide.Goals as goal

pub returns : goal.returns
returns c = cc
