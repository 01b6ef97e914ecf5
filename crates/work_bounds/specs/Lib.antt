pub mod OneAtATime
pub mod SavesDue
pub mod WorkLimits
pub mod BoundLaws
pub mod WorkedBounds
