pub mod Extract
pub mod Answer
pub mod Order
pub mod Scope
pub mod Read
pub mod Demand
pub mod AnswerRows
pub mod Call
