pub mod BookTests
pub mod ChartLists
pub mod ChartTests
pub mod LinkTests
pub mod ReadLaws
pub mod Pairs
