pub mod Image
pub mod Input
