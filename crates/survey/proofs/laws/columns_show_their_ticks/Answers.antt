use Rattle.survey.proofs.Lanes.{lanes_stay}
use Rattle.survey.proofs.Times.{timeline_shows}
use Rattle.survey.proofs.laws.columns_show_their_ticks.Goals as goal

pub returns-clause-marks : goal.returns-clause-marks
returns-clause-marks c = timeline_shows

pub returns-clause-lanes : goal.returns-clause-lanes
returns-clause-lanes c = lanes_stay
