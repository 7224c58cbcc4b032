pub mod atonce
pub mod divisors
pub mod settle
pub mod reciprocal
pub mod final
