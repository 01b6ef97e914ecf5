mod Decimals
mod Defaults
mod Limits
mod Members
mod Names
mod Rows
