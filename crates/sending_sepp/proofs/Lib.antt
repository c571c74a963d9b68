mod Apart
mod Limits
mod Metas
mod Outcomes
