mod Counting
mod SharedPasses
mod Chairs
mod Closing
mod Sends
