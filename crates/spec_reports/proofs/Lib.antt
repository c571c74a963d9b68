pub mod ReadBack
pub mod IdsRead
pub mod FormsRead
