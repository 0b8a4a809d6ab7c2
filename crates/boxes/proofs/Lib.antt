pub mod Words
pub mod Pairs
pub mod SumLaws
pub mod ScaleLaws
pub mod TableLaws
pub mod RunLaws
pub mod BoxLaws
pub mod Pipe
