pub mod TextTest
