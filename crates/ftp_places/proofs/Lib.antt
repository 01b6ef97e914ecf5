pub mod PathnameLemmas
pub mod PlaceLemmas
