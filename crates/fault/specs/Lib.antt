pub mod Numbers
pub mod Within
pub mod Words
