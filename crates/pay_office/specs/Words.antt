-- Words for the crates above: what a contract sees of a desk over a lane and of an office, and what stands when it is shut.
pub use Rattle.pay_office.specs.LaneDesks.{LaneDeskParts, lane_desk_code, desk_parts}
pub use Rattle.pay_office.specs.Waits.{commands_sent, NoneIsHidden, answer_to}
pub use Rattle.pay_lanes.specs.Words.{all_sent}
pub use Rattle.pay_office.specs.Offices.{HasEnded, IsEndOf, HaveLetPass}
