pub mod RangeLent
